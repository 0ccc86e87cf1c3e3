-- THE THREE CRATES TOGETHER: a choice that the search found, written out, is judged OK as choice 0 of the written book.
-- What is written reads as the chosen book, whose choice 0 is itself, and the verdict on it is what the search asked for.
use Prim.Native.Nat.{ℕ, ◌≤◌, ◌<◌}
use mathlib.Core.Path.{◌≡◌, refl, sym, ap, ◌∙◌}
use mathlib.Core.List.{List}
use mathlib.Core.Bool.{true}
use native.Mathlib.Decide.{ℕ_discrete}
use native.Mathlib.Omega.{arith}
use lib.ListN.{length, take}
use Rattle.book.specs.Memory.{number_of}
use Rattle.book.specs.Book.{RouteBook, well_formed}
use Rattle.book.specs.Format.{Reading, good, refused, reading}
use Rattle.book.specs.Choice.{sizes, product, choices, digits, chosen}
use Rattle.book.specs.Writing.{chosen_of, writing, written_of, written_length, buffer}
use Rattle.book.proofs.Readers.{Bytes}
use Rattle.book.proofs.Format.{reading_only}
use Rattle.book.proofs.Choices.{choices_some}
use Rattle.book.proofs.Chosen.{choice_fits, chosen_sizes, chosen_none}
use Rattle.book.proofs.Written.{such_a_choice}
use Rattle.book.proofs.ReadBack.{Denied, at_fault, no_choice, no_room, number_served, number_denied, room_enough}
use Rattle.judgement.specs.declared.Verdict.TheVariants.{Okay}
use Rattle.judgement.specs.declared.Judged.{Judged}
use Rattle.judgement.specs.Judgement.{verdict, acceptable}
use Rattle.judgement.proofs.Verdicts.{okay_only}
use Rattle.judgement.proofs.Demand.{okay_noughts}
use Rattle.judgement.specs.Answers.{judged, judged_of}
use Rattle.search.specs.declared.Finding.{Finding}
use Rattle.search.specs.declared.Finding.TheVariants.{Found}
use Rattle.std.specs.Prelude.{Result, Ok}
use Rattle.book.specs.declared.refusal.Refusal.{Refusal}
use Rattle.search.specs.Answers.{searched_of}
use Rattle.search.proofs.Findings.{found_exact}
use Rattle.search.proofs.Told.{Tells, tells}

-- r is the answer of `search` for the bytes s; w is that of `write` for choice n of them, and x the buffer `out` afterwards
module _ (s : List ℕ) (h : Bytes s) (limit n t : ℕ) (r : Result Finding Refusal) (searched : r ≡ searched_of (reading s) limit) (is_found : r ≡ Ok (Found n t))
    (out : List ℕ) (w : Result ℕ Refusal) (x : List ℕ) (wrote : (w ≡ written_of (writing s n (length out))) × (x ≡ buffer (writing s n (length out)) out)) where
  it : Tells s limit (Found n t)
  it = tells s limit r searched is_found

  below : n < choices it.book
  below = ((found_exact it.book limit n t).0 it.is).1

  accepted : acceptable (chosen it.book n) ≡ true
  accepted = ((found_exact it.book limit n t).0 it.is).2

  fits : well_formed it.book ≡ true
  fits = (reading_only s it.book h it.reads).1

  -- the writer can refuse such a choice for one reason only
  only_room : {k p : ℕ} → Denied s n (length out) k p → (k ≡ 11) × (length out < 3976)
  only_room (at_fault {k} {p} e) = let z : good it.book ≡ refused k p = sym it.reads ∙ e in let q : ◌≡◌ {A = ℕ} 0 1 = cc in absurd (omega arith)
  only_room (no_choice m e l) =
      let z : good it.book ≡ good m = sym it.reads ∙ e in
      let q : it.book ≡ m = cc in
      absurd (omega (arith, below, ap choices q))
  only_room (no_room m e l f) = (refl, omega (arith, f, room_enough m n (reading_only s m h e).1))

  -- 3,976 bytes are never too few
  pub long_enough : 3976 ≤ length out → number_of w ≡ 11 → ⊥
  long_enough l e = omega (arith, l, (only_room (number_denied s n out w x h wrote (λ z. omega (arith, z, e))).0).1)

  served : (number_of w ≡ 11 → ⊥) → number_of w ≡ 0
  served ne = elim (ℕ_discrete (number_of w) 0) [ yes z ↦ z | no z ↦ absurd (ne (only_room (number_denied s n out w x h wrote z).0).0) ]

  -- the bytes that were written
  abbrev bytes : List ℕ
  bytes = take (written_length w) x

  reads_back : number_of w ≡ 0 → reading bytes ≡ good (chosen it.book n)
  reads_back z =
      let b = number_served s n out w x h wrote z in
      let q : good b.book ≡ good it.book = sym b.reads ∙ it.reads in
      let same : b.book ≡ it.book = cc in
      b.back ∙ ap (λ (m : RouteBook). good (chosen m n)) same

  -- THE SENTENCE: unless the buffer is too short, the writing is served, and v, the answer of `judge` for choice 0 of the bytes written, is OK
  pub found_written : (number_of w ≡ 11 → ⊥) → (v : Result Judged Refusal) → v ≡ judged_of (chosen_of (reading bytes) 0) → (number_of w ≡ 0) × (v ≡ Ok (judged Okay 0 0))
  found_written ne v told =
      let m = it.book in
      let c = chosen m n in
      let z = served ne in
      let first : chosen_of (good c) 0 ≡ good c = such_a_choice c 0 (choices_some c (choice_fits m n fits)) ∙ ap good (chosen_none c) in
      (z, told ∙ ap (λ (g : Reading). judged_of (chosen_of g 0)) (reads_back z) ∙ ap judged_of first ∙ okay_noughts c (choice_fits m n fits) (okay_only (verdict c) accepted))

  -- and with any limit but 0, the search of those bytes finds choice 0
  pub found_again : (number_of w ≡ 11 → ⊥) → (limit' : ℕ) → 0 < limit' → (q : Result Finding Refusal) → q ≡ searched_of (reading bytes) limit' → q ≡ Ok (Found 0 t)
  found_again ne limit' l q told =
      let m = it.book in
      let c = chosen m n in
      let total : t ≡ choices c = ((found_exact m limit n t).0 it.is).4 ∙ sym (ap product (chosen_sizes m (digits (sizes m) n))) in
      let stands : acceptable (chosen c 0) ≡ true = ap acceptable (chosen_none c) ∙ accepted in
      told ∙ ap (λ (g : Reading). searched_of g limit') (reads_back (served ne))
      ∙ ap Ok ((found_exact c limit' 0 t).1 (l, choices_some c (choice_fits m n fits), stands, (λ k u. absurd (omega arith)), total))
