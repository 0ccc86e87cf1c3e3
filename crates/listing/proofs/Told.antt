-- What a command tells of a reading: its text where the book, and each answer about it, is there; and the refusal of the reading where it is not.
use Prim.Native.Nat.{ℕ}
use mathlib.Core.Path.{◌≡◌, refl, sym, ap, ◌∙◌, subst}
use mathlib.Core.Bool.{true}
use mathlib.Core.List.{List}
use Rattle.std.specs.Prelude.{Result, Ok, Err, MatchResult}
use Rattle.book.specs.Book.{RouteBook, well_formed}
use Rattle.book.specs.Format.{Reading, good, refused}
use Rattle.book.specs.Choice.{chosen, choices}
use Rattle.book.specs.Moving.{movables_in, sizes_in}
use Rattle.book.specs.Choice.{product}
use Rattle.book.specs.Memory.{fault_number, fault_of, book_of}
use Rattle.book.specs.Writing.{chosen_of}
use Rattle.book.specs.declared.Book.{Book}
use Rattle.book.specs.declared.choice.Movables.{Movables}
use Rattle.book.specs.declared.refusal.Refusal.{Refusal}
use Rattle.book.proofs.Choices.{choices_some}
use Rattle.book.proofs.Written.{such_a_choice, total_is}
use Rattle.listing.specs.Text.{text_of}
use Rattle.listing.specs.Report.{bad_text}
use Rattle.listing.specs.Inside.{told}
use Rattle.listing.specs.declared.text.Text.{Text}

-- what is asked of a good reading is answered, and not refused
module _ {A : Type 0} (ask : Reading → Result A Refusal) {g : Reading} {m : RouteBook} {a : A} (is : g ≡ good m) (answer : ask (good m) ≡ Ok a) where
  pub answered : {x : A} → Ok x ≡ ask g → x ≡ a
  answered q = let w : Ok _ ≡ Ok a = q ∙ ap ask is ∙ answer in cc

  pub unrefused : {e : Refusal} → Err e ≡ ask g → ⊥
  unrefused q = let w : Err _ ≡ Ok a = q ∙ ap ask is ∙ answer in absurd cc

-- so the text that is printed is that of the reading, be it good or refused, since each refusal has its number
module _ (f : Reading → List ℕ) (g : Reading) (says : (k p : ℕ) → f (refused k p) ≡ bad_text k p) (numbered : (k p : ℕ) → g ≡ refused k p → fault_number (fault_of k) ≡ k) where
  pub told_text : {r : Result Text Refusal} {t : Text} → r ≡ told f g
      → MatchResult r (λ x. t ≡ x) (λ e. t ≡ text_of (bad_text (fault_number e.fault) e.place)) → t ≡ text_of (f g)
  told_text {r} {t} met is = go g refl (subst (λ (x : Result Text Refusal). MatchResult x (λ y. t ≡ y) (λ e. t ≡ text_of (bad_text (fault_number e.fault) e.place))) met is)
    where
      go : (h : Reading) → g ≡ h → MatchResult (told f h) (λ x. t ≡ x) (λ e. t ≡ text_of (bad_text (fault_number e.fault) e.place)) → t ≡ text_of (f g)
      go (good m) i w = w ∙ sym (ap (λ (x : Reading). text_of (f x)) i)
      go (refused k p) i w = w ∙ ap (λ (n : ℕ). text_of (bad_text n p)) (numbered k p i) ∙ sym (ap text_of (ap f i ∙ says k p))

-- the first choice of a good book is there
pub first_choice : (m : RouteBook) → well_formed m ≡ true → chosen_of (good m) 0 ≡ good (chosen m 0)
first_choice m fits = such_a_choice m 0 (choices_some m fits)

-- the struct of a book tells how many choices it has
pub total_of : {b : Book} (m : RouteBook) → b ≡ book_of m → well_formed m ≡ true → {w : Movables} {t : ℕ} → w ≡ movables_in b → t ≡ product (sizes_in w) → t ≡ choices m
total_of m held fits e p = p ∙ ap (λ (w : Movables). product (sizes_in w)) e ∙ total_is m held fits
