-- What the reading of a choice tells the operations: a book that is well formed, or a refusal.
-- The chosen book of a well-formed book is well formed, so whatever `choose` hands back as good can be judged.
use Prim.Native.Nat.{ℕ}
use mathlib.Core.Path.{◌≡◌, refl, sym, ap, ◌∙◌, subst}
use mathlib.Core.List.{List}
use mathlib.Core.Bool.{true}
use mathlib.Core.Logic.{◌↔◌}
use native.Mathlib.Omega.{arith}
use Rattle.book.specs.declared.Book.{Book}
use Rattle.std.specs.Prelude.{Result, Ok}
use Rattle.book.specs.declared.refusal.Refusal.{Refusal}
use Rattle.book.specs.Book.{RouteBook, well_formed}
use Rattle.book.specs.Format.{Reading, good, refused, reading}
use Rattle.book.specs.Memory.{book_of, fault_number, fault_of, shown}
use Rattle.book.specs.Choice.{chosen}
use Rattle.book.specs.Writing.{chosen_of}
use Rattle.book.proofs.Readers.{Bytes}
use Rattle.book.proofs.Format.{reading_only}
use Rattle.book.proofs.Chosen.{choice_fits}
use Rattle.book.proofs.ChoiceRead.{ChoiceIs, such, no_such, choice_is, refused_above, refused_number}
use Rattle.book.proofs.Written.{ok_holds}
use Rattle.judgement.specs.Holding.{Held}
use Rattle.judgement.specs.Judgement.{verdict, score_f, score_fc}
use Rattle.judgement.specs.Answers.{judged, judged_of, judged_numbers}
use Rattle.judgement.specs.declared.Verdict.{Verdict}
use Rattle.judgement.specs.declared.Verdict.TheVariants.{Over, Split, Cut, Okay}

-- a good book, as an answer holds it
pub record Opened (g : Reading) (b : Book) : Type 0 where
  pub book : RouteBook
  pub is : g ≡ good book
  pub held : b ≡ book_of book
  pub fits : well_formed book ≡ true

module _ (s : List ℕ) (n : ℕ) (h : Bytes s) where
  pub fits_all : (m : RouteBook) → chosen_of (reading s) n ≡ good m → well_formed m ≡ true
  fits_all m e = go (subst (ChoiceIs s n) e (choice_is s n))
    where
      go : {c : RouteBook} → ChoiceIs s n (good c) → well_formed c ≡ true
      go (such a q l) = choice_fits a n (reading_only s a h q).1

  pub opened : {b : Book} → ◌≡◌ {A = Result Book Refusal} (Ok b) (shown (chosen_of (reading s) n)) → Opened (chosen_of (reading s) n) b
  opened e = let o = ok_holds (chosen_of (reading s) n) e in record { book = o.book; is = o.is; held = o.held; fits = fits_all o.book o.is }

  -- a refusal has a number of its own, so number 0 means that the answer is told
  pub told_good : (f : Reading → ℕ) → ((m : RouteBook) → f (good m) ≡ 0) → ((k p : ℕ) → f (refused k p) ≡ fault_number (fault_of k))
      → (f (chosen_of (reading s) n) ≡ 0) ↔ ((m : RouteBook) × (chosen_of (reading s) n ≡ good m))
  told_good f told bad = (to (choice_is s n), (λ z. ap f z.1 ∙ told z.0))
    where
      to : {g : Reading} → ChoiceIs s n g → f g ≡ 0 → (m : RouteBook) × (g ≡ good m)
      to (such m q l) z = (chosen m n, refl)
      to (no_such {k} {p} x) z = absurd (omega (arith, refused_above s n h x, refused_number s n x, z, bad k p))

  pub judged_told : ((judged_numbers (judged_of (chosen_of (reading s) n))).number ≡ 0) ↔ ((m : RouteBook) × (chosen_of (reading s) n ≡ good m))
  judged_told = told_good (λ g. (judged_numbers (judged_of g)).number) (λ m. kinds (verdict m) (score_f m) (score_fc m)) (λ k p. refl)
    where
      kinds : (v : Verdict) (f c : ℕ) → (judged_numbers (Ok (judged v f c))).number ≡ 0
      kinds (Over x l w) f c = refl
      kinds (Split d) f c = refl
      kinds (Cut x d) f c = refl
      kinds Okay f c = refl

-- THE LAWS of an operation on bytes: b is what `choose` handed back, and f what is to be answered of a reading. A good book is there to be asked about, and
-- what is told of it is told of the reading
module _ (s : List ℕ) (n : ℕ) {b : Book} (e : ◌≡◌ {A = Result Book Refusal} (Ok b) (shown (chosen_of (reading s) n))) where
  pub good_held : Bytes s → Held b
  good_held h = let o = opened s n h e in record { book = o.book; is = o.held; fits = o.fits }

  pub good_told : {A : Type 0} (f : Reading → A) {x : A} → Bytes s
      → ((m : RouteBook) → b ≡ book_of m → well_formed m ≡ true → x ≡ f (good m)) → x ≡ f (chosen_of (reading s) n)
  good_told f h told = let o = opened s n h e in told o.book o.held o.fits ∙ ap f (sym o.is)
