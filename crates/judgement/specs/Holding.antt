-- What the functions ask of a book in memory, and what they tell each other of its loads: nothing beyond the judgement to believe.
use Rattle.std.specs.Prelude.{ℕ, ◌+◌, ◌*◌, ◌<◌, ◌≤◌, ◌≡◌, List, Bool, true, ltb, length, get_or, Option, Some}
use Rattle.book.specs.declared.Book.{Book}
use Rattle.book.specs.Book.{RouteBook, well_formed, most_spans, most_lightpaths, longest_route, count}
use Rattle.book.specs.Memory.{book_of}
use Rattle.judgement.specs.Arrays.{usable, load_in, limit_in}
use Rattle.judgement.specs.declared.load.Overload.{Overload}

-- b holds a well-formed book
pub record Held (b : Book) : Type 0 where
  pub book : RouteBook
  pub is : b ≡ book_of book
  pub fits : well_formed book ≡ true

-- the struct b is usable
pub record Usable (b : Book) : Type 0 where
  pub is : usable b ≡ true

-- a route can be counted into these loads, one for each span: it is no longer than a route can be, and no load is more than all places of all routes
pub record Room (loads route : List ℕ) : Type 0 where
  pub long : length loads ≡ most_spans
  pub short : length route ≤ longest_route
  pub few : (x : ℕ) → get_or loads x 0 ≤ longest_route * most_lightpaths

-- the loads with one route more: each span has one more for each time that it stands in the route
pub record Counted (before route loads : List ℕ) : Type 0 where
  pub long : length loads ≡ most_spans
  pub each : (x : ℕ) → x < most_spans → get_or loads x 0 ≡ get_or before x 0 + count x route

-- the loads that the arrays of b have, span by span
pub record Loads (b : Book) (loads : List ℕ) : Type 0 where
  pub long : length loads ≡ most_spans
  pub each : (x : ℕ) → x < most_spans → get_or loads x 0 ≡ load_in b x

-- whether span x is over its limit by them, and the answer that names it
abbrev pub is_over : Book → ℕ → Bool
is_over b x = ltb (limit_in b x) (load_in b x)

abbrev pub over_at : ℕ → ℕ → ℕ → Option Overload
over_at x l w = Some (record { span = x; load = l; limit = w })

abbrev pub over_in : Book → ℕ → Option Overload
over_in b x = over_at x (load_in b x) (limit_in b x)
