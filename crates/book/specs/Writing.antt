-- Writing the chosen book into a lent buffer: docs/BOOK.md, section 9.
use Rattle.std.specs.Prelude.{ℕ, List, ◌++◌, cond, length, drop, ltb, leb, Result, Ok, Err}
use Rattle.book.specs.Format.{encode, Reading, good, refused, reading}
use Rattle.book.specs.Choice.{choices, chosen}
use Rattle.book.specs.Memory.{refusal}
use Rattle.book.specs.declared.refusal.Refusal.{Refusal}

-- B60: what writing answers: these bytes, or a number of refusal and a place
pub data Writing : Type 0 where
  served : List ℕ → Writing
  denied : ℕ → ℕ → Writing

-- B62: 11 where the buffer is shorter than the written book
abbrev pub fitted : ℕ → List ℕ → Writing
fitted room w = cond (leb (length w) room) (served w) (denied 11 0)

-- B61: a refusal is handed on as it is
abbrev pub fitted_of : ℕ → Reading → Writing
fitted_of room (good m) = fitted room (encode m)
fitted_of room (refused k p) = denied k p

-- B61: the choice that is read: the book's own fault comes first; then 12, where the number is not below the number of choices
abbrev pub chosen_of : Reading → ℕ → Reading
chosen_of (good m) n = cond (ltb n (choices m)) (good (chosen m n)) (refused 12 0)
chosen_of (refused k p) n = refused k p

-- B61, B62: the choice is read, and then 11 may come
abbrev pub writing_of : Reading → ℕ → ℕ → Writing
writing_of g n room = fitted_of room (chosen_of g n)

-- the bytes of a book, the number of a choice, and the length of the buffer
abbrev pub writing : List ℕ → ℕ → ℕ → Writing
writing b n room = writing_of (reading b) n room

-- B63: the buffer afterwards: the written book and what stood beyond it; or all as it was
abbrev pub buffer : Writing → List ℕ → List ℕ
buffer (served w) out = w ++ drop (length w) out
buffer (denied k p) out = out

-- B60: what the writer answers: the length of what it wrote, or the refusal
abbrev pub written_of : Writing → Result ℕ Refusal
written_of (served w) = Ok (length w)
written_of (denied k p) = Err (refusal k p)

-- B60: the length in an answer: 0 where it is a refusal
abbrev pub written_length : Result ℕ Refusal → ℕ
written_length (Ok l) = l
written_length (Err r) = 0
