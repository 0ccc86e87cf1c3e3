-- Each merge makes the pieces of the stations fewer: the labels after it are labels from before, and one of the two that its lightpath joined is gone.
-- So there are fewer merges than stations, and at most 63.
use Prim.Native.Nat.{ℕ, ◌+◌, ◌*◌, ◌<◌, ◌≤◌}
use mathlib.Core.Path.{◌≡◌, refl, sym, ap, ◌∙◌, subst}
use mathlib.Core.List.{List}
use mathlib.Core.Logic.{◌⊎◌, inl, inr, ⊎_elim}
use mathlib.Core.Bool.{Bool, true, false, cond, false≢true}
use native.Mathlib.Omega.{arith}
use native.Mathlib.Decide.{ℕ_discrete}
use lib.Dec.{ltb}
use lib.ListN.{length}
use Rattle.book.specs.Book.{RouteBook, well_formed}
use Rattle.book.specs.Bits.{bit, has}
use Rattle.book.proofs.Bits.{bit_lt, has_true, true_has}
use Rattle.book.proofs.Bounds.{stations_lt, station_lt, ends_stations}
use Rattle.judgement.specs.Network.{Network}
use Rattle.judgement.specs.Inside.{size}
use Rattle.judgement.specs.Judgement.{network, load, limit, stations, lowest}
use Rattle.judgement.specs.Pieces.{over, labels, HoldTogether}
use Rattle.judgement.specs.Ways.{Way, here, hop}
use Rattle.judgement.specs.Contraction.{touches, ring_of, lowest_label, merged, merges_in, merge_count}
use Rattle.judgement.proofs.Sets.{set_same, size_less, size_few, size_some}
use Rattle.judgement.proofs.Stations.{lowest_lt, lowest_has}
use Rattle.judgement.proofs.First.{First, there, nowhere, first}
use Rattle.judgement.proofs.Labels.{labels_in, labels_of, labels_lt}
use Rattle.judgement.proofs.Rings.{touch_inv, lowest-label}
use Rattle.judgement.proofs.Merges.{Merges, merges_inv, ring_is, touch_from, touch_to}
use Rattle.judgement.proofs.Contracts.{Made, singles, next, made_hold, pieces_made}

-- what a way touches is an end of a lightpath that there is
way_touch : (net : Network) (free : ℕ → Bool) {x y : ℕ} {ks : List ℕ} → Way net free x ks y → (q : ℕ) → touches net ks q ≡ true
    → (k : ℕ) × (k < net.count) × ((net.from k ≡ q) ⊎ (net.to k ≡ q))
unfolding touches
way_touch net free here q h = absurd (false≢true h)
way_touch net free (hop {k = k} {ks = ks} l f r w) q h = go (λ t. way_touch net free w q t) (touch_inv net k ks q h)
  where
    Of : Type 0
    Of = (k : ℕ) × (k < net.count) × ((net.from k ≡ q) ⊎ (net.to k ≡ q))

    go : (touches net ks q ≡ true → Of) → ((net.from k ≡ q) ⊎ (net.to k ≡ q)) ⊎ (touches net ks q ≡ true) → Of
    go ih (inl e) = (k, l, e)
    go ih (inr t) = ih t

module _ (m : RouteBook) (good : well_formed m ≡ true) where
  -- the labels of the stations
  abbrev labelled : (ℕ → ℕ) → ℕ
  labelled piece = labels (has (stations m)) piece 64

  -- single stations: the labels are the stations
  singles_all : labelled (λ i. i) ≡ stations m
  singles_all = set_same 64 _ _ (labels_lt (has (stations m)) (λ i. i) 64 64 (λ i l. l)) (stations_lt m good) (λ i l. (
    (λ h. let w = labels_of (has (stations m)) (λ i. i) 64 i h in true_has (stations m) i (subst (λ (j : ℕ). has (stations m) j ≡ true) w.3 w.2)),
    (λ h. labels_in (has (stations m)) (λ i. i) 64 i l (has_true (stations m) i h)),
  ))

  -- one merge
  module _ (piece : ℕ → ℕ) (low : (i : ℕ) → i < 64 → piece i < 64) (k : ℕ) (l : k < length m.lightpaths) (h : Merges m piece k) where
    abbrev ring : List ℕ
    ring = ring_of m piece k

    abbrev touched : ℕ → Bool
    touched = touches (over (network m) piece) ring

    abbrev label : ℕ
    label = lowest_label m piece ring

    st : (has (stations m) ((network m).from k) ≡ true) × (has (stations m) ((network m).to k) ≡ true)
    st = ends_stations m good k l

    label_touched : touched label ≡ true
    label_touched = (lowest-label m piece low ring ((network m).from k) (station_lt m good _ st.0) (touch_from m piece k)).holds

    station_label : (i : ℕ) → has (stations m) i ≡ true → bit (labelled piece) (piece i) ≡ 1
    station_label i s = labels_in (has (stations m)) piece 64 i (station_lt m good i s) s

    -- what the ring touches is the label of a station
    touched_label : (q : ℕ) → touched q ≡ true → bit (labelled piece) q ≡ 1
    touched_label q t =
        let w = way_touch (over (network m) piece) (λ j. true) (ring_is m good piece low k l h).closed q t in
        let s = ends_stations m good w.0 w.1 in
        ⊎_elim (λ e. ap (bit (labelled piece)) (sym e) ∙ station_label _ s.0) (λ e. ap (bit (labelled piece)) (sym e) ∙ station_label _ s.1) w.2

    within : (q : ℕ) → bit (labelled (merged m piece ring)) q ≡ 1 → bit (labelled piece) q ≡ 1
    unfolding merged
    within q b = let w = labels_of (has (stations m)) (merged m piece ring) 64 q b in go w.0 w.2 (touched (piece w.0)) refl w.3
      where
        go : (i : ℕ) → has (stations m) i ≡ true → (t : Bool) → touches (over (network m) piece) (ring_of m piece k) (piece i) ≡ t
            → cond t (lowest_label m piece (ring_of m piece k)) (piece i) ≡ q → bit (labelled piece) q ≡ 1
        go i s true e f = ap (bit (labelled piece)) (sym f) ∙ touched_label label label_touched
        go i s false e f = ap (bit (labelled piece)) (sym f) ∙ station_label i s

    -- a label that the ring touches is gone, unless it is the lowest
    gone : (q : ℕ) → touched q ≡ true → (label ≡ q → ⊥) → bit (labelled (merged m piece ring)) q ≡ 0
    unfolding merged
    gone q t ne =
        let s = labelled (merged m piece ring) in
        elim (ℕ_discrete (bit s q) 1) [ yes b ↦ absurd (out b) | no n ↦ omega (arith, bit_lt s q) ]
      where
        out : bit (labelled (merged m piece ring)) q ≡ 1 → ⊥
        out b = let w = labels_of (has (stations m)) (merged m piece ring) 64 q b in go w.0 (touched (piece w.0)) refl w.3
          where
            go : (i : ℕ) (u : Bool) → touches (over (network m) piece) (ring_of m piece k) (piece i) ≡ u
                → cond u (lowest_label m piece (ring_of m piece k)) (piece i) ≡ q → ⊥
            go i true e f = ne f
            go i false e f = false≢true (sym e ∙ ap touched f ∙ t)

    fewer : size 64 (labelled (merged m piece ring)) < size 64 (labelled piece)
    fewer = go (ℕ_discrete label (piece ((network m).from k)))
      where
        less : (q : ℕ) → q < 64 → touched q ≡ true → (label ≡ q → ⊥) → bit (labelled piece) q ≡ 1
            → size 64 (labelled (merged m piece ring)) < size 64 (labelled piece)
        less q b t ne p = size_less (labelled (merged m piece ring)) (labelled piece) within 64 q b (gone q t ne) p

        go : Dec (label ≡ piece ((network m).from k)) → size 64 (labelled (merged m piece ring)) < size 64 (labelled piece)
        go (no n) = less _ (low _ (station_lt m good _ st.0)) (touch_from m piece k) n (station_label _ st.0)
        go (yes y) = less _ (low _ (station_lt m good _ st.1)) (touch_to m piece k) (λ e. h.parts (sym y ∙ e)) (station_label _ st.1)

  made_fewer : {n : ℕ} {piece : ℕ → ℕ} → Made m n piece → n + size 64 (labelled piece) ≤ size 64 (stations m)
  made_fewer singles = omega (arith, ap (size 64) singles_all)
  made_fewer (next {piece = before} a k t) = omega (arith, made_fewer a, fewer before (made_hold m good a).low k t.below (merges_inv m before k t.holds))

  some_label : (piece : ℕ → ℕ) → HoldTogether m piece → 0 < size 64 (labelled piece)
  some_label piece h =
      size_some 64 (labelled piece) (piece (lowest m)) (h.low (lowest m) (lowest_lt m good))
      (labels_in (has (stations m)) piece 64 (lowest m) (lowest_lt m good) (lowest_has m good))

  -- THE LAW: there are fewer merges than stations, on the way and at the end
  pub made_few : {n : ℕ} {piece : ℕ → ℕ} → Made m n piece → n < size 64 (stations m)
  made_few {piece = piece} a = omega (arith, made_fewer a, some_label piece (made_hold m good a))

  pub merges_few : merges_in m (64 * 64) (λ i. i) < size 64 (stations m)
  merges_few = made_few (pieces_made m good)

  pub count_few : merge_count m ≤ 63
  count_few = go (first (λ x. ltb (limit m x) (load m x)) (λ x. 0) (merges_in m (64 * 64) (λ i. i)) (length m.spans) 0)
    where
      go : {c : ℕ} → First (λ x. ltb (limit m x) (load m x)) (λ x. 0) (merges_in m (64 * 64) (λ i. i)) (length m.spans) 0 c → c ≤ 63
      go (there x a b e below) = omega arith
      go (nowhere none) = omega (arith, merges_few, size_few 64 (stations m))
