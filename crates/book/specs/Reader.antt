-- Reading front to back: what a reader of a record is, and the pieces of which docs/BOOK.md, section 5, makes them.
use Rattle.std.specs.Prelude.{ℕ, zero, suc, List, [], ◌∷◌, ◌++◌, Bool, cond, ◌&&◌, length, get_or, take, drop, eqb, leb}

-- B26: a value and the bytes after it; or a number of refusal and the bytes from its place on
pub data Got (A : Type 0) : Type 0 where
  got : A → List ℕ → Got A
  bad : ℕ → List ℕ → Got A

abbrev pub and_then : {A B : Type 0} → Got A → (A → List ℕ → Got B) → Got B
and_then (got a t) f = f a t
and_then (bad n p) f = bad n p

-- a reader is given the bytes from its record's first on, to which a refusal points, and the bytes still to be read
abbrev pub Reader : Type 0 → Type 0
Reader A = List ℕ → List ℕ → Got A

abbrev pub ◌>>=◌ : {A B : Type 0} → Reader A → (A → Reader B) → Reader B
◌>>=◌ r f = λ here s. and_then (r here s) (λ a t. f a here t)

abbrev pub ◌>>◌ : {A B : Type 0} → Reader A → Reader B → Reader B
◌>>◌ r q = λ here s. and_then (r here s) (λ a t. q here t)

abbrev pub give : {A : Type 0} → A → Reader A
give a here s = got a s

-- refused with the number n, at the record, where the test fails
abbrev pub need : Bool → ℕ → Reader (Unit {0})
need t n here s = cond t (got tt s) (bad n here)

-- the same, at the bytes q, the last that were read
abbrev pub need_from : Bool → ℕ → List ℕ → Reader (Unit {0})
need_from t n q here s = cond t (got tt s) (bad n (q ++ s))

-- a record begins here
abbrev pub begun : {A : Type 0} → Reader A → Reader A
begun r here s = r s s

-- n records of a kind, each told those before it, the last first
unfoldable pub each : {A : Type 0} → (List A → Reader A) → ℕ → List A → Reader (List A)
each r zero before = give []
each r (suc n) before = do
  a ← begun (r before)
  l ← each r n (a ∷ before)
  give (a ∷ l)

-- B20: every field is one byte. B27: refused as 1 where the book ends inside the k fields
abbrev pub fields : ℕ → Reader (List ℕ)
fields k here s = cond (leb k (length s)) (got (take k s) (drop k s)) (bad 1 here)

-- B19: a mark of two bytes
pub record Mark : Type 0 where
  pub one : ℕ
  pub two : ℕ

abbrev pub is_mark : Mark → List ℕ → Bool
is_mark m b = eqb (get_or b 0 0) m.one && eqb (get_or b 1 0) m.two

-- B28: the mark that is due (1, then 2), then k fixed fields (1)
unfoldable pub opened : Mark → ℕ → Reader (List ℕ)
opened m k = do
  b ← fields 2
  need (is_mark m b) 2
  fields k
