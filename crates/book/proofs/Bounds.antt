-- What a well-formed book keeps within: how many there are of each kind, the stations as a set below 64 that is not empty, and every lightpath
-- with its ends among them. Each is one part of well-formedness, read off at one number.
use Prim.Native.Nat.{ℕ, ◌^◌, ◌<◌, ◌≤◌}
use mathlib.Core.Path.{◌≡◌, sym, ◌∙◌}
use mathlib.Core.List.{[]}
use mathlib.Core.Bool.{true, ◌&&◌}
use native.Mathlib.Omega.{arith}
use lib.ListN.{length}
use lib.Dec.{eqb, ltb}
use borrow.Author.Tests.{eqb-false, ltb-true, not-true}
use Rattle.book.specs.Book.{RouteBook, span_at, span_ends, span_fits, lightpath_ends, lightpath_fits, well_formed}
use Rattle.book.specs.Bits.{has, station_set}
use Rattle.book.specs.Choice.{lightpath_at}
use Rattle.book.proofs.Tests.{and_inv}
use Rattle.book.proofs.Parts.{parts}
use Rattle.book.proofs.Stands.{counted}
use Rattle.book.proofs.Stations.{stations_within, station_has, ends_both}
use Rattle.book.proofs.Stages.{every_at, station_low, found}

module _ (m : RouteBook) (good : well_formed m ≡ true) where
  pub counts : (length m.nodes ≤ 64) × (length m.spans ≤ 128) × (length m.lightpaths ≤ 96) × (length m.alternatives ≤ 56)
  counts = counted _ _ _ _ (parts m good).counts

  -- the stations
  pub stations_lt : station_set m.nodes < 2 ^ 64
  stations_lt = stations_within 64 0 0 m.nodes (omega (arith, counts.0)) (omega arith)

  pub station_lt : (i : ℕ) → has (station_set m.nodes) i ≡ true → i < 64
  station_lt i h = omega (arith, counts.0, station_low m.nodes i (sym (station_has m.nodes i) ∙ h))

  pub a_station : (i : ℕ) × (has (station_set m.nodes) i ≡ true)
  a_station = let z = found m.nodes (parts m good).station in (z.0, station_has m.nodes z.0 ∙ z.1)

  -- the spans
  pub span-ends : (x : ℕ) → x < length m.spans
      → ((span_at m.spans x).left < length m.nodes) × ((span_at m.spans x).right < length m.nodes) × ((span_at m.spans x).left ≡ (span_at m.spans x).right → ⊥)
  unfolding span_ends
  span-ends x l =
      let n = length m.nodes in
      let a = (span_at m.spans x).left in
      let b = (span_at m.spans x).right in
      let fits = every_at (span_fits n) (span_at [] 0) [] m.spans (parts m good).spans x l in
      let both = and_inv {a = ltb a n && ltb b n} (and_inv {a = span_ends n a b} fits).0 in
      let low = and_inv {a = ltb a n} both.0 in
      (ltb-true a n low.0, ltb-true b n low.1, eqb-false a b (not-true (eqb a b) both.1))

  -- the lightpaths
  module _ (k : ℕ) (l : k < length m.lightpaths) where
    pub lightpath-fits : lightpath_fits m.nodes m.spans (lightpath_at m.lightpaths k) ≡ true
    lightpath-fits = every_at (lightpath_fits m.nodes m.spans) (lightpath_at [] 0) [] m.lightpaths (parts m good).lightpaths k l

    pub ends_stations : (has (station_set m.nodes) (lightpath_at m.lightpaths k).ends.from ≡ true)
        × (has (station_set m.nodes) (lightpath_at m.lightpaths k).ends.to ≡ true)
    ends_stations =
        let e = (lightpath_at m.lightpaths k).ends in
        let s = ends_both m.nodes e (and_inv {a = lightpath_ends m.nodes e} lightpath-fits).0 in
        (station_has m.nodes e.from ∙ s.0, station_has m.nodes e.to ∙ s.1)

    pub ends_lt : ((lightpath_at m.lightpaths k).ends.from < 64) × ((lightpath_at m.lightpaths k).ends.to < 64)
    ends_lt = (station_lt _ ends_stations.0, station_lt _ ends_stations.1)
