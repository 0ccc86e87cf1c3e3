-- The computed side holds just the stations that are joined to the lowest, and it is all the stations exactly if all of them are joined.
-- So a comparison of two sets decides what the document says of chains of lightpaths.
use Prim.Native.Nat.{ℕ, ◌^◌, ◌<◌}
use mathlib.Core.Path.{◌≡◌, sym, ap, ◌∙◌, subst}
use mathlib.Core.Logic.{◌⊎◌, inl, inr, ◌↔◌}
use mathlib.Core.Bool.{Bool, true}
use native.Mathlib.Decide.{ℕ_discrete}
use lib.Dec.{eqb}
use borrow.Author.Tests.{eqb-true, eq-eqb, ne_eqb}
use Rattle.book.specs.Book.{RouteBook, well_formed}
use Rattle.book.specs.Bits.{has}
use Rattle.book.proofs.Bits.{bit_iff, bit_ext, has_true, true_has}
use Rattle.book.proofs.Bounds.{stations_lt, ends_stations, ends_lt}
use Rattle.judgement.specs.Network.{Joined, start, more, side_of}
use Rattle.judgement.specs.Judgement.{network, stations, lowest, side, whole}
use Rattle.judgement.specs.Cuts.{AllJoined}
use Rattle.judgement.specs.Inside.{size}
use Rattle.judgement.proofs.Sets.{size_same}
use Rattle.judgement.proofs.Joins.{side_joined, side_grown}
use Rattle.judgement.proofs.Stations.{lowest_lt, lowest_has}

module _ (m : RouteBook) (good : well_formed m ≡ true) (up : ℕ → Bool) where
  -- the side of any node holds just what is joined to that
  pub joined_to : (s : ℕ) → s < 64 → (i : ℕ) → (has (side_of (network m) up 64 s) i ≡ true) ↔ Joined (network m) up s i
  joined_to s l i =
      let j = side_joined (network m) up 64 (ends_lt m good) s l i in
      ((λ h. j.0 (true_has _ i h)), (λ q. has_true _ i (j.1 q)))

  -- THE LAW of the side
  pub side_has : (i : ℕ) → (has (side m up) i ≡ true) ↔ Joined (network m) up (lowest m) i
  side_has = joined_to (lowest m) (lowest_lt m good)

  pub side_lt : side m up < 2 ^ 64
  side_lt = (side_grown (network m) up 64 (ends_lt m good) (lowest m) (lowest_lt m good)).0.low

  -- what is joined to a station is a station
  pub joined_station : (i : ℕ) → Joined (network m) up (lowest m) i → has (stations m) i ≡ true
  joined_station i start = lowest_has m good
  joined_station i (more j l) = go l.runs
    where
      k : ℕ
      k = l.number

      go : {x : ℕ} → (((network m).from k ≡ x) × ((network m).to k ≡ i)) ⊎ (((network m).to k ≡ x) × ((network m).from k ≡ i)) → has (stations m) i ≡ true
      go (inl p) = subst (λ (n : ℕ). has (stations m) n ≡ true) p.1 (ends_stations m good k l.below).1
      go (inr p) = subst (λ (n : ℕ). has (stations m) n ≡ true) p.1 (ends_stations m good k l.below).0

  pub side_stations : (i : ℕ) → has (side m up) i ≡ true → has (stations m) i ≡ true
  side_stations i h = joined_station i ((side_has i).0 h)

  -- THE LAW of the whole
  pub whole_joined : (whole m up ≡ true) ↔ AllJoined m up
  whole_joined = (
    (λ w i h. (side_has i).0 (ap (λ (n : ℕ). has n i) (eqb-true (side m up) (stations m) w) ∙ h)),
    (λ all. eq-eqb (side m up) (stations m) (bit_ext 64 (side m up) (stations m) side_lt (stations_lt m good) (λ i l. bit_iff (side m up) (stations m) i
        (λ b. true_has (stations m) i (side_stations i (has_true (side m up) i b)))
        (λ b. true_has (side m up) i ((side_has i).1 (all i (has_true (stations m) i b))))))),
  )

  -- so two counts tell as much as two sets
  pub whole_size : eqb (size 64 (side m up)) (size 64 (stations m)) ≡ whole m up
  whole_size = go (ℕ_discrete (side m up) (stations m))
    where
      go : Dec (side m up ≡ stations m) → eqb (size 64 (side m up)) (size 64 (stations m)) ≡ whole m up
      go (yes e) = eq-eqb (size 64 (side m up)) (size 64 (stations m)) (ap (size 64) e) ∙ sym (eq-eqb (side m up) (stations m) e)
      go (no n) =
          ne_eqb (size 64 (side m up)) (size 64 (stations m))
          (λ e. n (size_same (side m up) (stations m) (λ i h. true_has (stations m) i (side_stations i (has_true (side m up) i h))) 64 side_lt (stations_lt m good) e))
          ∙ sym (ne_eqb (side m up) (stations m) n)
