-- The MOVE lines, digit by digit. The arrays of the structs hold the movable lightpaths of the book and the digits of the choice.
use Prim.Native.Nat.{ℕ, zero, suc, ◌+◌}
use mathlib.Core.Path.{◌≡◌, refl, ap, ap₂, ◌∙◌}
use mathlib.Core.Bool.{true}
use mathlib.Core.List.{List, [], ◌++◌}
use native.Mathlib.Numerals.{add-one}
use lib.ListN.{get_or}
use Rattle.book.specs.Book.{RouteBook, well_formed}
use Rattle.book.specs.Memory.{book_of}
use Rattle.book.specs.Choice.{movable, sizes, digits}
use Rattle.book.specs.Moving.{movables_of, movables_in, sizes_in, choice_in}
use Rattle.book.specs.declared.choice.Movables.{Movables}
use Rattle.book.proofs.Padded.{padded_at}
use Rattle.book.proofs.Gathered.{movables-of}
use Rattle.book.proofs.Choices.{sizes-in}
use Rattle.listing.specs.Report.{move_line, move_lines}

module _ (ks ds : List ℕ) where
  pub moves_none : [] ≡ move_lines ks ds 0
  unfolding move_lines
  moves_none = refl

  pub moves_next : (i : ℕ) → move_lines ks ds i ++ move_line (get_or ks i 0) (get_or ds i 0) ≡ move_lines ks ds (i + 1)
  unfolding move_lines
  moves_next i = rw (add-one i)

moves_alike : (ks ks' ds : List ℕ) → ((i : ℕ) → get_or ks i 0 ≡ get_or ks' i 0) → (i : ℕ) → move_lines ks ds i ≡ move_lines ks' ds i
unfolding move_lines
moves_alike ks ks' ds same zero = refl
moves_alike ks ks' ds same (suc i) = ap₂ (λ (x : List ℕ) (k : ℕ). x ++ move_line k (get_or ds i 0)) (moves_alike ks ks' ds same i) (same i)

-- THE LAW
module _ (m : RouteBook) (fits : well_formed m ≡ true) (n : ℕ) where
  pub moves_held : move_lines (movables_in (book_of m)).lightpath (choice_in (movables_in (book_of m)) n).digits 8 ≡ move_lines (movable m) (digits (sizes m) n) 8
  moves_held =
      ap (λ (w : Movables). move_lines w.lightpath (digits (sizes_in w) n) 8) (movables-of m fits)
      ∙ ap (λ (z : List ℕ). move_lines (movables_of m).lightpath (digits z n) 8) (sizes-in m fits)
      ∙ moves_alike (movables_of m).lightpath (movable m) (digits (sizes m) n) (padded_at 8 (movable m)) 8
