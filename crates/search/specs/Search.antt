-- What is found among the choices of a book, given the trial limit: docs/SEARCH.md, section 1.
use Rattle.std.specs.Prelude.{ℕ, min, Bool, cond, leb}
use Rattle.book.specs.Book.{RouteBook}
use Rattle.book.specs.Choice.{choices, chosen}
use Rattle.judgement.specs.Judgement.{acceptable, first_of}
use Rattle.search.specs.declared.Finding.{Finding}
use Rattle.search.specs.declared.Finding.TheVariants.{Found, None, More}

-- S2: whether the number n is acceptable
abbrev pub acceptable_at : RouteBook → ℕ → Bool
acceptable_at m n = acceptable (chosen m n)

-- S4, S5: what is left where none is found: NONE if the limit is at least the number of choices, else MORE
abbrev pub unfound : RouteBook → ℕ → Finding
unfound m limit = cond (leb (choices m) limit) (None (choices m)) (More limit (choices m))

-- S1, S3: FOUND with the first acceptable number below both the limit and the number of choices
abbrev pub found_at : RouteBook → ℕ → Finding
found_at m n = Found n (choices m)

abbrev pub finding : RouteBook → ℕ → Finding
finding m limit = first_of (acceptable_at m) (found_at m) (unfound m limit) (min limit (choices m)) 0
