-- What a usable struct has, test by test, and what the code relies on in its arrays. The struct of a well-formed book is usable.
use Prim.Native.Nat.{ℕ, ◌≤◌, ◌<◌}
use mathlib.Core.Path.{◌≡◌, refl, sym, ap, ◌∙◌, subst}
use mathlib.Core.List.{List, [], ◌∷◌}
use mathlib.Core.Bool.{true, false, not, ◌&&◌}
use native.Mathlib.Decide.{dec_lt}
use native.Mathlib.Omega.{arith}
use lib.ListN.{length, get_or, get_or-eq_default}
use lib.Dec.{ltb}
use borrow.Author.Tests.{lt-ltb, le-ltb, ltb-true, ltb-false, not-true}
use Rattle.std.specs.List.{list_all}
use Rattle.book.specs.declared.Book.{Book}
use Rattle.book.specs.Book.{Lightpath, RouteBook, below, well_formed}
use Rattle.book.specs.Bits.{has, station_set}
use Rattle.book.specs.Memory.{book_of}
use Rattle.book.proofs.Tests.{and_inv, and_both}
use Rattle.book.proofs.Bounds.{counts, ends_lt, ends_stations}
use Rattle.book.proofs.Walking.{below_at, below_all}
use Rattle.book.proofs.Lightpaths.{column_at}
use Rattle.book.proofs.Writers.{no_lightpath}
use Rattle.judgement.specs.Arrays.{lowest_in, usable}
use Rattle.judgement.specs.Inside.{Fits, EndsIn}
use Rattle.judgement.specs.Holding.{Held, Usable}
use Rattle.judgement.proofs.Stations.{lowest_lt}

-- the tests, one after another
module _ (b : Book) where
  module _ (few : b.lightpaths ≤ 96) where
    module _ (short : b.spans ≤ 128) where
      pub no_station : 63 < lowest_in b → false ≡ usable b
      no_station h = rw (le-ltb 96 b.lightpaths few, le-ltb 128 b.spans short, le-ltb (lowest_in b) 64 (omega arith))

      pub by_the_ends : lowest_in b ≤ 63 → (below 64 b.from && below 64 b.to) ≡ usable b
      by_the_ends h = rw (le-ltb 96 b.lightpaths few, le-ltb 128 b.spans short, lt-ltb (lowest_in b) 64 (omega arith))

-- all of a list are below n where each passes the test
pub below_each : (n : ℕ) (xs : List ℕ) → list_all (λ x. ltb x n) xs ≡ below n xs
unfolding below
below_each n [] = refl
below_each n (x ∷ xs) = rw (below_each n xs) refl

-- what they tell
module _ {b : Book} (u : Usable b) where
  first : (not (ltb 96 b.lightpaths) ≡ true) × ((not (ltb 128 b.spans) && (ltb (lowest_in b) 64 && (below 64 b.from && below 64 b.to))) ≡ true)
  first = and_inv {a = not (ltb 96 b.lightpaths)} u.is

  second : (not (ltb 128 b.spans) ≡ true) × ((ltb (lowest_in b) 64 && (below 64 b.from && below 64 b.to)) ≡ true)
  second = and_inv {a = not (ltb 128 b.spans)} first.1

  third : (ltb (lowest_in b) 64 ≡ true) × ((below 64 b.from && below 64 b.to) ≡ true)
  third = and_inv {a = ltb (lowest_in b) 64} second.1

  pub usable_lightpaths : b.lightpaths ≤ 96
  usable_lightpaths = ltb-false 96 b.lightpaths (not-true (ltb 96 b.lightpaths) first.0)

  pub usable_spans : b.spans ≤ 128
  usable_spans = ltb-false 128 b.spans (not-true (ltb 128 b.spans) second.0)

  pub usable_start : lowest_in b < 64
  usable_start = ltb-true (lowest_in b) 64 third.0

  pub usable_fits : Fits b.lightpaths b.from b.to
  usable_fits =
      let ends = and_inv {a = below 64 b.from} third.1 in
      record {
        few = usable_lightpaths;
        from_low = λ k. low b.from ends.0 k (dec_lt k (length b.from));
        to_low = λ k. low b.to ends.1 k (dec_lt k (length b.to));
      }
    where
      low : (xs : List ℕ) → below 64 xs ≡ true → (k : ℕ) → Dec (k < length xs) → get_or xs k 0 < 64
      low xs h k (yes l) = below_at 64 xs k h l
      low xs h k (no n) = omega (arith, get_or-eq_default xs 0 {n = k} (omega arith))

-- THE LAW
module _ (m : RouteBook) (fits : well_formed m ≡ true) where
  end_low : (f : Lightpath → ℕ) → f no_lightpath ≡ 0 → ((k : ℕ) → k < length m.lightpaths → f (get_or m.lightpaths k no_lightpath) < 64) → (k : ℕ) → f (get_or m.lightpaths k no_lightpath) < 64
  end_low f z low k = go (dec_lt k (length m.lightpaths))
    where
      go : Dec (k < length m.lightpaths) → f (get_or m.lightpaths k no_lightpath) < 64
      go (yes l) = low k l
      go (no n) = omega (arith, ap f (get_or-eq_default m.lightpaths no_lightpath {n = k} (omega arith)), z)

  tests : usable (book_of m) ≡ true
  tests =
      let n = counts m fits in
      let from = end_low (λ (p : Lightpath). p.ends.from) refl (λ k l. (ends_lt m fits k l).0) in
      let to = end_low (λ (p : Lightpath). p.ends.to) refl (λ k l. (ends_lt m fits k l).1) in
      sym (by_the_ends (book_of m) n.2 n.1 (omega (arith, lowest_lt m fits)))
      ∙ and_both
      (below_all 64 (book_of m).from (λ k. rw (column_at 96 (λ (p : Lightpath). p.ends.from) m.lightpaths no_lightpath refl k) (from k)))
      (below_all 64 (book_of m).to (λ k. rw (column_at 96 (λ (p : Lightpath). p.ends.to) m.lightpaths no_lightpath refl k) (to k)))

  pub book_usable : {b : Book} → b ≡ book_of m → Usable b
  book_usable e = record { is = ap usable e ∙ tests }

-- so whatever holds a book is usable, and has no more spans than that
pub held_usable : {b : Book} → Held b → Usable b
held_usable h = book_usable h.book h.fits h.is

pub held_spans : {b : Book} → Held b → b.spans ≤ 128
held_spans h = usable_spans (held_usable h)

-- the ends of its lightpaths are stations
pub held_ends : {b : Book} → Held b → EndsIn b.lightpaths b.from b.to b.stations
held_ends h = let m = h.book in subst (λ (y : Book). EndsIn y.lightpaths y.from y.to y.stations) (sym h.is) (record {
  from_in = λ k l. ap (has (station_set m.nodes)) (column_at 96 (λ (p : Lightpath). p.ends.from) m.lightpaths no_lightpath refl k) ∙ (ends_stations m h.fits k l).0;
  to_in = λ k l. ap (has (station_set m.nodes)) (column_at 96 (λ (p : Lightpath). p.ends.to) m.lightpaths no_lightpath refl k) ∙ (ends_stations m h.fits k l).1;
})
