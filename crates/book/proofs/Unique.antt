-- What the promises leave open: nothing. Every string of bytes is one good book or has one fault, never both, and the answer is told by that.
-- The answer is an equation, so two answers that meet it are equal; the law of the format and the rows of the table say what it means.
use Prim.Native.Nat.{ℕ, ◌≤◌}
use mathlib.Core.Path.{◌≡◌, refl, sym, ap, ◌∙◌}
use mathlib.Core.List.{List}
use lib.ListN.{length}
use mathlib.Core.Logic.{◌⊎◌, inl, inr}
use mathlib.Core.Bool.{true}
use native.Mathlib.Omega.{arith}
use Rattle.std.specs.Prelude.{Result, Ok, Err}
use Rattle.book.specs.declared.Book.{Book}
use Rattle.book.specs.declared.refusal.Refusal.{Refusal}
use Rattle.book.specs.Book.{RouteBook, well_formed}
use Rattle.book.specs.Format.{encode, Reading, good, refused, reading}
use Rattle.book.specs.Refusal.{Due, Row, row1_mark, row1_fields, row1_route, row2, row3, row4_node, row4_span, row4_lightpath, row5, row6, row7, row8, row9, row10, Fault}
use Rattle.book.specs.Memory.{book_of, refusal, number_of, place_of, shown}
use Rattle.book.specs.Writing.{writing, written_of, buffer}
use Rattle.book.proofs.Readers.{Bytes}
use Rattle.book.proofs.Format.{reading_back, reading_only}
use Rattle.book.proofs.Refusals.{refused_fault}
use Rattle.book.proofs.Tabled.{refused_number}

-- no second answer meets a contract that is an equation with a function of the input: so of `read`, and of every operation on choices
pub one_answer : {A : Type 0} (told r q : A) → r ≡ told → q ≡ told → r ≡ q
one_answer told r q e f = e ∙ sym f

pub one_reply : (b : List ℕ) (r q : Result Book Refusal) → r ≡ shown (reading b) → q ≡ shown (reading b) → r ≡ q
one_reply b r q = one_answer (shown (reading b)) r q

-- nor that of `write`, which speaks of the answer and of the whole buffer
pub one_writing : (b : List ℕ) (n : ℕ) (out : List ℕ) (r q : Result ℕ Refusal) (x y : List ℕ) → (r ≡ written_of (writing b n (length out))) × (x ≡ buffer (writing b n (length out)) out)
    → (q ≡ written_of (writing b n (length out))) × (y ≡ buffer (writing b n (length out)) out) → (r ≡ q) × (x ≡ y)
one_writing b n out r q x y e f = (one_answer (written_of (writing b n (length out))) r q e.0 f.0, one_answer (buffer (writing b n (length out)) out) x y e.1 f.1)

-- no book has a second encoding, and no bytes encode a second book
pub one_book : (m n : RouteBook) → well_formed m ≡ true → well_formed n ≡ true → encode m ≡ encode n → m ≡ n
one_book m n h k e = let q : good m ≡ good n = sym (reading_back m h) ∙ ap reading e ∙ reading_back n k in cc

-- every string of bytes is a good book or has a fault
pub record GoodBook (b : List ℕ) : Type 0 where
  pub book : RouteBook
  pub fits : well_formed book ≡ true
  pub written : encode book ≡ b

pub record Faulty (b : List ℕ) : Type 0 where
  pub number : ℕ
  pub place : ℕ
  pub fault : Fault b number place

pub good_or_faulty : (b : List ℕ) → Bytes b → GoodBook b ⊎ Faulty b
good_or_faulty b h = go (reading b) refl
  where
    go : (r : Reading) → reading b ≡ r → GoodBook b ⊎ Faulty b
    go (good m) e = let z = reading_only b m h e in inl (record { book = m; fits = z.1; written = z.0 })
    go (refused n p) e = inr (record { number = n; place = p; fault = refused_fault b n p h e })

-- the numbers of refusal, and where a place can be
row_number : {d : Due} {s q : List ℕ} {n : ℕ} → Row d s n q → (1 ≤ n) × (n ≤ 10)
row_number (row1_mark o l) = omega arith
row_number (row1_fields o l m k) = omega arith
row_number (row1_route r f l) = omega arith
row_number (row2 o l m) = omega arith
row_number (row3 e f) = omega arith
row_number (row4_node e l) = omega arith
row_number (row4_span e f) = omega arith
row_number (row4_lightpath e f) = omega arith
row_number (row5 before x after v o l h) = omega arith
row_number (row6 r f) = omega arith
row_number (row7 before x after v o l w) = omega arith
row_number (row8 e f) = omega arith
row_number row9 = omega arith
row_number (row10 e) = omega arith

pub refused_within : (b : List ℕ) (n p : ℕ) → Bytes b → reading b ≡ refused n p → (1 ≤ n) × (n ≤ 10) × (p ≤ length b)
refused_within b n p h e =
    let f = refused_fault b n p h e in
    let r = row_number f.row in
    (r.0, r.1, omega (arith, f.place))

-- so the answer's number is 0 exactly for a good book, which the struct then holds; and else the answer is the refusal, with no book
pub record Served (b : List ℕ) (r : Result Book Refusal) : Type 0 where
  pub book : RouteBook
  pub fits : well_formed book ≡ true
  pub written : encode book ≡ b
  pub held : r ≡ Ok (book_of book)

pub number_good : (b : List ℕ) (r : Result Book Refusal) → Bytes b → r ≡ shown (reading b) → number_of r ≡ 0 → Served b r
number_good b r h e z = go (reading b) refl e
  where
    go : (g : Reading) → reading b ≡ g → r ≡ shown g → Served b r
    go (good m) q w = let o = reading_only b m h q in record { book = m; fits = o.1; written = o.0; held = w }
    go (refused n p) q w = absurd (omega (arith, z, ap number_of w, refused_number b q, (refused_within b n p h q).0))

pub number_bad : (b : List ℕ) (r : Result Book Refusal) → Bytes b → r ≡ shown (reading b) → (number_of r ≡ 0 → ⊥)
    → Fault b (number_of r) (place_of r) × (r ≡ Err (refusal (number_of r) (place_of r)))
number_bad b r h e z = go (reading b) refl e
  where
    go : (g : Reading) → reading b ≡ g → r ≡ shown g → Fault b (number_of r) (place_of r) × (r ≡ Err (refusal (number_of r) (place_of r)))
    go (good m) q w = absurd (z (ap number_of w))
    go (refused n p) q w =
        let k = refused_number b q in
        rw (w, k) (refused_fault b n p h q, refl)
