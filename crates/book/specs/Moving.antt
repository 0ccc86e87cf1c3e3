-- Choices in memory: docs/BOOK.md, section 10. The structs hold what a book says of its choices; here is also what each operation makes of any
-- struct at all, though only the ones of a book have a meaning.
use Rattle.std.specs.Prelude.{ℕ, suc, ◌+◌, ◌-◌, ◌*◌, min, List, [], ◌∷◌, map, Bool, cond, ◌&&◌, length, get_or, take, drop, set, replicate, eqb, ltb}
use Rattle.book.specs.Book.{RouteBook, most_lightpaths, most_for_one, most_with_alternatives, longest_route}
use Rattle.book.specs.Memory.{padded, most_routes, laid, with_rows}
use Rattle.book.specs.Choice.{movable, alternatives_each, digits}
use Rattle.book.specs.declared.Book.{Book}
use Rattle.book.specs.declared.choice.Movables.{Movables}
use Rattle.book.specs.declared.choice.Choice.{Choice}

-- B64: the movable lightpaths of a book
abbrev pub movables_of : RouteBook → Movables
movables_of m = record { count = length (movable m); lightpath = padded most_with_alternatives (movable m); more = alternatives_each m }

-- they are gathered from the lightpaths of the alternatives, in book order: each alternative belongs to the movable lightpath found last, or is the
-- first of a new one; a ninth lightpath and an eighth alternative of one are passed over
abbrev pub no_movables : Movables
no_movables = record { count = 0; lightpath = replicate most_with_alternatives 0; more = replicate most_with_alternatives 0 }

abbrev pub last_is : Movables → ℕ → Bool
last_is w k = ltb 0 w.count && eqb (get_or w.lightpath (w.count - 1) 0) k

abbrev pub with_more : Movables → Movables
with_more w = record { count = w.count; lightpath = w.lightpath; more = set w.more (w.count - 1) (min (get_or w.more (w.count - 1) 0 + 1) most_for_one) }

abbrev pub with_new : Movables → ℕ → Movables
with_new w k = record { count = w.count + 1; lightpath = set w.lightpath w.count k; more = set w.more w.count 1 }

unfoldable pub with_one : Movables → ℕ → Movables
with_one w k = cond (last_is w k) (with_more w) (cond (ltb w.count most_with_alternatives) (with_new w k) w)

unfoldable pub gathered : Movables → List ℕ → Movables
gathered w [] = w
gathered w (k ∷ ks) = gathered (with_one w k) ks

abbrev pub movables_in : Book → Movables
movables_in b = gathered no_movables (take b.alternatives b.owner)

-- B65: a choice; more than seven alternatives count as seven
abbrev pub capped : List ℕ → List ℕ
capped ws = map (λ x. suc (min x most_for_one)) ws

abbrev pub sizes_in : Movables → List ℕ
sizes_in w = capped w.more

abbrev pub choice_in : Movables → ℕ → Choice
choice_in w n = record { digits = digits (sizes_in w) n }

-- B66: the chosen book: for each movable lightpath k the row of its route is replaced by the one that its digit d gives it. Its alternatives are
-- the rows from `first` on
abbrev pub row_of : ℕ → ℕ → ℕ → ℕ
row_of k first d = min (cond (eqb d 0) k (first + d - 1)) (most_routes - 1)

-- the routes of a book, as it holds them
pub record Rows : Type 0 where
  pub len : List ℕ
  pub route : List ℕ
  pub low : List ℕ
  pub high : List ℕ

abbrev pub moved_row : Rows → Rows → ℕ → ℕ → Rows
moved_row listed r to from = record {
  len = set r.len to (get_or listed.len from 0);
  route = laid r.route (longest_route * to) (take longest_route (drop (longest_route * from) listed.route));
  low = set r.low to (get_or listed.low from 0);
  high = set r.high to (get_or listed.high from 0);
}

unfoldable pub moved : Rows → ℕ → List ℕ → List ℕ → List ℕ → Rows → Rows
moved listed first [] ws ds r = r
moved listed first (k ∷ ks) ws ds r =
    moved listed (first + get_or ws 0 0) ks (drop 1 ws) (drop 1 ds) (moved_row listed r (min k (most_lightpaths - 1)) (row_of (min k (most_lightpaths - 1)) first (get_or ds 0 0)))

abbrev pub rows_in : Book → Rows
rows_in b = record { len = b.len; route = b.route; low = b.low; high = b.high }

abbrev pub with_rows_of : Book → Rows → Book
with_rows_of b r = with_rows b r.len r.route r.low r.high

abbrev pub chosen_in : Book → Movables → Choice → Book
chosen_in b w c = with_rows_of b (moved (rows_in b) b.lightpaths (take (min w.count most_with_alternatives) w.lightpath) w.more c.digits (rows_in b))
