-- The lowest station of a well-formed book: it is below 64, is a station, and no station is lower.
-- Such a book has a station, so its set of stations, which is below 64, has a lowest member.
use Prim.Native.Nat.{ℕ, ◌<◌}
use mathlib.Core.Path.{◌≡◌}
use mathlib.Core.Bool.{true, false}
use Rattle.book.specs.Book.{RouteBook, well_formed}
use Rattle.book.specs.Bits.{has}
use Rattle.book.proofs.Bits.{has_true, has_false, true_has}
use Rattle.book.proofs.Bounds.{station_lt, a_station}
use Rattle.judgement.specs.Judgement.{stations, lowest}
use Rattle.judgement.proofs.Sets.{low_in, low_below, low_lt}

module _ (m : RouteBook) (good : well_formed m ≡ true) where
  pub lowest_lt : lowest m < 64
  lowest_lt = let z = a_station m good in low_lt 64 (stations m) z.0 (station_lt m good z.0 z.1) (true_has (stations m) z.0 z.1)

  pub lowest_has : has (stations m) (lowest m) ≡ true
  lowest_has = has_true (stations m) (lowest m) (low_in 64 (stations m) lowest_lt)

  pub lowest_least : (i : ℕ) → i < lowest m → has (stations m) i ≡ false
  lowest_least i l = has_false (stations m) i (low_below 64 (stations m) i l)
