-- The numbers of what the reader answers are those of the reading: a refusal's fault has the number of the reading's refusal.
-- That number is one of the table, whatever the bytes.
use Rattle.std.specs.Prelude.{ℕ, ◌≡◌, List}
use mathlib.Core.Path.{refl}
use Rattle.book.specs.Format.{Reading, good, refused, reading}
use Rattle.book.specs.Memory.{shown}
use Rattle.book.proofs.Tabled.{refused_number}
use Rattle.face.specs.Numbers.{answered_row, book_row, read_row}

pub row_read : (s : List ℕ) → answered_row book_row (shown (reading s)) ≡ read_row (reading s)
row_read s = go (reading s) refl
  where
    go : (g : Reading) → reading s ≡ g → answered_row book_row (shown g) ≡ read_row g
    go (good m) q = refl
    go (refused k p) q = rw (refused_number s q) refl
