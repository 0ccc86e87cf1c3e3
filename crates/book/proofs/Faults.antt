-- The numbers of the faults: each fault has its own, and the fault with a number from 1 to 13 has that number.
-- So a refusal that is made of a number and a place tells both.
use Rattle.std.specs.Prelude.{ℕ, zero, suc, ◌≡◌, ◌≤◌}
use Rattle.std.proofs.Common.{refl}
use native.Mathlib.Omega.{arith}
use Rattle.book.specs.declared.refusal.Fault.{Fault}
use Rattle.book.specs.declared.refusal.Fault.TheVariants.{CutShort, WrongMark, BadCounts, BadField, SpanTooHigh, BadLength, BrokenWalk, OutOfOrder, AfterEnd, NoStation, NoRoom, NoChoice, NoSpan}
use Rattle.book.specs.declared.refusal.Refusal.{Refusal}
use Rattle.book.specs.Memory.{fault_number, fault_of, refusal}

pub fault_back : (f : Fault) → fault_of (fault_number f) ≡ f
fault_back CutShort = refl
fault_back WrongMark = refl
fault_back BadCounts = refl
fault_back BadField = refl
fault_back SpanTooHigh = refl
fault_back BadLength = refl
fault_back BrokenWalk = refl
fault_back OutOfOrder = refl
fault_back AfterEnd = refl
fault_back NoStation = refl
fault_back NoRoom = refl
fault_back NoChoice = refl
fault_back NoSpan = refl

pub refusal_back : (e : Refusal) → refusal (fault_number e.fault) e.place ≡ e
refusal_back e = rw (fault_back e.fault) refl

pub number_back : (n : ℕ) → 1 ≤ n → n ≤ 13 → fault_number (fault_of n) ≡ n
number_back zero h l = absurd (omega arith)
number_back (suc zero) h l = refl
number_back (suc (suc zero)) h l = refl
number_back (suc (suc (suc zero))) h l = refl
number_back (suc (suc (suc (suc zero)))) h l = refl
number_back (suc (suc (suc (suc (suc zero))))) h l = refl
number_back (suc (suc (suc (suc (suc (suc zero)))))) h l = refl
number_back (suc (suc (suc (suc (suc (suc (suc zero))))))) h l = refl
number_back (suc (suc (suc (suc (suc (suc (suc (suc zero)))))))) h l = refl
number_back (suc (suc (suc (suc (suc (suc (suc (suc (suc zero))))))))) h l = refl
number_back (suc (suc (suc (suc (suc (suc (suc (suc (suc (suc zero)))))))))) h l = refl
number_back (suc (suc (suc (suc (suc (suc (suc (suc (suc (suc (suc zero))))))))))) h l = refl
number_back (suc (suc (suc (suc (suc (suc (suc (suc (suc (suc (suc (suc zero)))))))))))) h l = refl
number_back (suc (suc (suc (suc (suc (suc (suc (suc (suc (suc (suc (suc (suc zero))))))))))))) h l = refl
number_back (suc (suc (suc (suc (suc (suc (suc (suc (suc (suc (suc (suc (suc (suc n)))))))))))))) h l = absurd (omega arith)
