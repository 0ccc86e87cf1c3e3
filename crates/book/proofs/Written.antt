-- The writer's parts fit together: what it has read, and the chosen book, are what `rewrite` asks for.
-- The struct of the book tells its movable lightpaths, these tell the number of choices and the digits, and the digits the chosen book.
use Prim.Native.Nat.{ℕ, ◌≤◌, ◌<◌}
use mathlib.Core.Path.{◌≡◌, refl, sym, ap, ◌∙◌}
use mathlib.Core.List.{List}
use mathlib.Core.Bool.{true}
use borrow.Author.Tests.{lt-ltb, le-ltb}
use Rattle.book.specs.Book.{RouteBook, well_formed}
use Rattle.book.specs.Format.{encode, Reading, good, refused, reading}
use Rattle.book.specs.Memory.{book_of, shown}
use Rattle.book.specs.Choice.{sizes, choices, product, digits, chosen}
use Rattle.book.specs.Moving.{movables_of, movables_in, sizes_in, choice_in, chosen_in}
use Rattle.book.specs.Writing.{chosen_of}
use Rattle.book.specs.declared.Book.{Book}
use Rattle.book.specs.declared.refusal.Refusal.{Refusal}
use Rattle.std.specs.Prelude.{Result, Ok}
use Rattle.book.proofs.Readers.{Bytes}
use Rattle.book.proofs.Format.{reading_only}
use Rattle.book.proofs.Numbering.{digits_valid}
use Rattle.book.proofs.Gathered.{movables-of}
use Rattle.book.proofs.Chosen.{sizes_above}
use Rattle.book.proofs.Choices.{sizes-in}
use Rattle.book.proofs.Placed.{chosen-in}

-- what the struct of a good book tells
module _ {b : Book} (m : RouteBook) (held : b ≡ book_of m) (fits : well_formed m ≡ true) where
  movables_are : movables_in b ≡ movables_of m
  movables_are = ap movables_in held ∙ movables-of m fits

  sizes_are : sizes_in (movables_in b) ≡ sizes m
  sizes_are = ap sizes_in movables_are ∙ sizes-in m fits

  pub total_is : product (sizes_in (movables_in b)) ≡ choices m
  total_is = ap product sizes_are

  pub chosen_is : (n : ℕ) → chosen_in b (movables_in b) (choice_in (movables_in b) n) ≡ book_of (chosen m n)
  chosen_is n =
      (λ i. chosen_in (held i) (movables_are i) (record { digits = digits (sizes_are i) n })) ∙ chosen-in m (digits (sizes m) n) fits (digits_valid (sizes m) n (sizes_above m))

-- the choice of a good book, by its test
pub no_such_choice : (m : RouteBook) (n : ℕ) → choices m ≤ n → chosen_of (good m) n ≡ refused 12 0
no_such_choice m n l = rw (le-ltb n (choices m) l)

pub such_a_choice : (m : RouteBook) (n : ℕ) → n < choices m → chosen_of (good m) n ≡ good (chosen m n)
such_a_choice m n l = rw (lt-ltb n (choices m) l)

-- an answer says what the reading was: of a good book, its struct is held; and a refusal has the number and place of the reading
pub record Holds (g : Reading) (b : Book) : Type 0 where
  pub book : RouteBook
  pub is : g ≡ good book
  pub held : b ≡ book_of book

pub ok_holds : (g : Reading) {b : Book} → ◌≡◌ {A = Result Book Refusal} (Ok b) (shown g) → Holds g b
ok_holds (good m) e = record { book = m; is = refl; held = cc }
ok_holds (refused k p) e = absurd (cc)

-- the struct b holds the good book m, whose bytes are s; and it is what the bytes read as
pub record ReadAs (s : List ℕ) (b : Book) (m : RouteBook) : Type 0 where
  pub written : s ≡ encode m
  pub held : b ≡ book_of m
  pub fits : well_formed m ≡ true

pub record GoodRead (s : List ℕ) (b : Book) : Type 0 where
  pub book : RouteBook
  pub reads : reading s ≡ good book
  pub is : ReadAs s b book

pub reply_read : (s : List ℕ) {b : Book} → Bytes s → ◌≡◌ {A = Result Book Refusal} (Ok b) (shown (reading s)) → GoodRead s b
reply_read s h e =
    let g = ok_holds (reading s) e in
    let o = reading_only s g.book h g.is in
    record { book = g.book; reads = g.is; is = record { written = sym o.0; held = g.held; fits = o.1 } }
