-- READING A CHOICE, from the contract of `choose`: number 0 means a good book, a number below its number of choices, and the struct of the chosen book.
-- Any other is the book's own fault, or 12 where there is no such choice, since every fault of a book has a number of its own, 1 to 10.
use Prim.Native.Nat.{ℕ, ◌≤◌, ◌<◌}
use mathlib.Core.Path.{◌≡◌, refl, ap}
use mathlib.Core.List.{List}
use mathlib.Core.Bool.{Bool, true, false, cond}
use native.Mathlib.Omega.{arith}
use lib.Dec.{ltb}
use borrow.Author.Tests.{ltb-true, ltb-false}
use Rattle.std.specs.Prelude.{Result, Ok, Err}
use Rattle.book.specs.declared.Book.{Book}
use Rattle.book.specs.declared.refusal.Refusal.{Refusal}
use Rattle.book.specs.Book.{RouteBook, well_formed}
use Rattle.book.specs.Format.{encode, Reading, good, refused, reading}
use Rattle.book.specs.Memory.{book_of, fault_number, fault_of, refusal, number_of, place_of, shown}
use Rattle.book.specs.Choice.{choices, chosen}
use Rattle.book.specs.Writing.{chosen_of}
use Rattle.book.proofs.Readers.{Bytes}
use Rattle.book.proofs.Format.{reading_only}
use Rattle.book.proofs.Unique.{refused_within}
use Rattle.book.proofs.Tabled.{refused_number as reading_number}
use Rattle.book.proofs.Chosen.{choice_fits}

-- good: the bytes b are a good book, n is below its number of choices, and the struct holds the chosen book, which is well formed
pub record Chose (b : List ℕ) (n : ℕ) (r : Result Book Refusal) : Type 0 where
  pub book : RouteBook
  pub fits : well_formed book ≡ true
  pub written : encode book ≡ b
  pub below : n < choices book
  pub held : r ≡ Ok (book_of (chosen book n))
  pub chosen_fit : well_formed (chosen book n) ≡ true

-- refused: the book's own fault; else 12, no such choice
pub data NotChosen (b : List ℕ) (n : ℕ) : ℕ → ℕ → Type 0 where
  at_fault : {k p : ℕ} → reading b ≡ refused k p → NotChosen b n k p
  no_choice : (m : RouteBook) → reading b ≡ good m → choices m ≤ n → NotChosen b n 12 0

-- what reading a choice gives: the chosen book of a good book, or a refusal
pub data ChoiceIs (b : List ℕ) (n : ℕ) : Reading → Type 0 where
  such : (m : RouteBook) → reading b ≡ good m → n < choices m → ChoiceIs b n (good (chosen m n))
  no_such : {k p : ℕ} → NotChosen b n k p → ChoiceIs b n (refused k p)

pub choice_is : (b : List ℕ) (n : ℕ) → ChoiceIs b n (chosen_of (reading b) n)
choice_is b n = go (reading b) refl
  where
    test : (m : RouteBook) → reading b ≡ good m → (t : Bool) → ltb n (choices m) ≡ t → ChoiceIs b n (cond t (good (chosen m n)) (refused 12 0))
    test m q true l = such m q (ltb-true n (choices m) l)
    test m q false l = no_such (no_choice m q (ltb-false n (choices m) l))

    go : (g : Reading) → reading b ≡ g → ChoiceIs b n (chosen_of g n)
    go (good m) q = test m q (ltb n (choices m)) refl
    go (refused k p) q = no_such (at_fault q)

-- the fault that a refusal names has its number
pub refused_number : (b : List ℕ) (n : ℕ) {k p : ℕ} → NotChosen b n k p → fault_number (fault_of k) ≡ k
refused_number b n (at_fault q) = reading_number b q
refused_number b n (no_choice m q l) = refl

pub chosen_number : (b : List ℕ) (n : ℕ) {k p : ℕ} → chosen_of (reading b) n ≡ refused k p → fault_number (fault_of k) ≡ k
chosen_number b n {k} {p} e = go (choice_is b n) e
  where
    go : {g : Reading} → ChoiceIs b n g → g ≡ refused k p → fault_number (fault_of k) ≡ k
    go (such m q l) w = let z : ◌≡◌ {A = ℕ} 0 1 = cc in absurd (omega arith)
    go (no_such {k = j} x) w = let same : j ≡ k = cc in rw (← same) (refused_number b n x)

module _ (b : List ℕ) (n : ℕ) (h : Bytes b) where
  -- a refusal has a number of its own
  pub refused_above : {k p : ℕ} → NotChosen b n k p → 1 ≤ k
  refused_above (at_fault {k} {p} q) = (refused_within b k p h q).0
  refused_above (no_choice m q l) = omega arith

  module _ (r : Result Book Refusal) (met : r ≡ shown (chosen_of (reading b) n)) where
    pub choose_good : number_of r ≡ 0 → Chose b n r
    choose_good z = go (choice_is b n) met
      where
        go : {g : Reading} → ChoiceIs b n g → r ≡ shown g → Chose b n r
        go (such m q l) w =
            let o = reading_only b m h q in
            record { book = m; fits = o.1; written = o.0; below = l; held = w; chosen_fit = choice_fits m n o.1 }
        go (no_such x) w = absurd (omega (arith, z, ap number_of w, refused_number b n x, refused_above x))

    pub choose_bad : (number_of r ≡ 0 → ⊥) → NotChosen b n (number_of r) (place_of r) × (r ≡ Err (refusal (number_of r) (place_of r)))
    choose_bad z = go (choice_is b n) met
      where
        go : {g : Reading} → ChoiceIs b n g → r ≡ shown g → NotChosen b n (number_of r) (place_of r) × (r ≡ Err (refusal (number_of r) (place_of r)))
        go (such m q l) w = absurd (z (ap number_of w))
        go (no_such x) w = rw (w, refused_number b n x) (x, refl)
