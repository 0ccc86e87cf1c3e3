-- What each answer means, in the words of docs/SEARCH.md and without the search that finds it.
use Rattle.std.specs.Prelude.{ℕ, ◌<◌, ◌≤◌, ◌≡◌, true, false}
use Rattle.book.specs.Book.{RouteBook}
use Rattle.book.specs.Choice.{choices}
use Rattle.search.specs.declared.Finding.{Finding}
use Rattle.search.specs.declared.Finding.TheVariants.{Found, None, More}
use Rattle.search.specs.Search.{acceptable_at}

module _ (m : RouteBook) where
  -- S2: no number below n is acceptable
  abbrev pub NoneBelow : ℕ → Type 0
  NoneBelow n = (k : ℕ) → k < n → acceptable_at m k ≡ false

  -- S3 to S5: the three answers with their numbers, given the trial limit
  pub data Given (limit : ℕ) : Finding → Type 0 where
    found : (n : ℕ) → n < limit → n < choices m → acceptable_at m n ≡ true → NoneBelow n → Given limit (Found n (choices m))
    none : choices m ≤ limit → NoneBelow (choices m) → Given limit (None (choices m))
    more : limit < choices m → NoneBelow limit → Given limit (More limit (choices m))
