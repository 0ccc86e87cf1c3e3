-- What the private functions of the crate tell each other.
use Rattle.std.specs.Prelude.{ℕ, ◌+◌, ◌-◌, ◌*◌, ◌≡◌, cond, List, ◌++◌, Option, Some, None, Result, Ok, Err}
use Rattle.book.specs.Format.{Reading, good, refused}
use Rattle.book.specs.Memory.{refusal}
use Rattle.book.specs.declared.refusal.Refusal.{Refusal}
use Rattle.listing.specs.Text.{text_of}
use Rattle.listing.specs.Number.{fits32}
use Rattle.listing.specs.declared.text.Text.{Text}

-- the text r is the text t with the bytes x behind it, as far as there is room
pub record Adds (t : Text) (x : List ℕ) (r : Text) : Type 0 where
  pub shows : (l : List ℕ) → t ≡ text_of l → r ≡ text_of (l ++ x)

-- what a command that reads a book can tell: its text, or the refusal of what it reads
abbrev pub told : (Reading → List ℕ) → Reading → Result Text Refusal
told f (good m) = Ok (text_of (f (good m)))
told f (refused k p) = Err (refusal k p)

-- what digits worth n are worth with a digit more, where that fits
abbrev pub with_digit : ℕ → ℕ → Option ℕ
with_digit n c = cond (fits32 (10 * n + (c - 48))) (Some (10 * n + (c - 48))) None
