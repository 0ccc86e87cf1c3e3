-- LABELS IN ARRAYS: a table is filled place by place, and a set of labels node by node. The labels of the ends, in place of the ends, make the network over
-- pieces; a merge makes no label greater and one less, and leaves each station's label no lower than the lowest station.
use Prim.Native.Nat.{ℕ, ◌+◌, ◌<◌, ◌≤◌, zero-le}
use mathlib.Core.Path.{◌≡◌, refl, sym, ap, ap₂, ◌∙◌, fun_ext}
use mathlib.Core.List.{List, map}
use mathlib.Core.Logic.{◌⊎◌, inl, inr}
use mathlib.Core.Bool.{Bool, true, false, cond, ◌||◌, false≢true}
use native.Mathlib.Numerals.{add-one}
use native.Mathlib.Decide.{dec_lt}
use native.Mathlib.Omega.{arith}
use lib.Count.{count_trailing_zeros, trailing_le}
use lib.Dec.{eqb}
use lib.ListN.{length, get_or, get_or-eq_default}
use borrow.Author.Tests.{eqb-true}
use Rattle.book.specs.Book.{Lightpath, RouteBook, well_formed}
use Rattle.book.specs.Bits.{has, put}
use Rattle.book.specs.Memory.{padded, book_of}
use Rattle.book.proofs.Bits.{has_true, has_false, true_has}
use Rattle.book.proofs.Bounds.{counts, ends_lt, ends_stations}
use Rattle.book.proofs.Lightpaths.{column_at}
use Rattle.book.proofs.Writers.{no_lightpath}
use Rattle.judgement.specs.Network.{Network}
use Rattle.judgement.specs.Judgement.{network, stations, lowest}
use Rattle.judgement.specs.Pieces.{over, labels}
use Rattle.judgement.specs.Ways.{lowest_of}
use Rattle.judgement.specs.Contraction.{touches, ring_of, merges, lowest_label, merged}
use Rattle.judgement.specs.Inside.{net_of}
use Rattle.judgement.specs.Merge.{Table, relabelled, Labelled, trail_of}
use Rattle.judgement.proofs.First.{there, nowhere, first_only}
use Rattle.judgement.proofs.Sets.{low_in, low_below, low_lt}
use Rattle.judgement.proofs.Stations.{lowest_lt}
use Rattle.judgement.proofs.Tests.{or_inv}
use Rattle.judgement.proofs.Lowest.{lowest_passes}
use Rattle.judgement.proofs.Merges.{merged_le}
use Rattle.judgement.proofs.Merging.{Under, nothing, one_more, under}
use Rattle.judgement.proofs.Carried.{touched_is}
use Rattle.judgement.proofs.Elements.{table_low}

-- a label that is made the lowest of a ring is no greater than it was
pub relabelled_low : (s q : ℕ) → q < 64 → relabelled s (count_trailing_zeros 64 s) q < 64
relabelled_low s q l = go (has s q) refl
  where
    go : (b : Bool) → has s q ≡ b → cond b (count_trailing_zeros 64 s) q < 64
    go true e = omega (arith, l, low_lt 64 s q l (true_has s q e))
    go false e = l

-- no node, and one more
pub labels_none : (t : ℕ → Bool) (piece : ℕ → ℕ) → labels t piece 0 ≡ 0
unfolding labels
labels_none t piece = refl

pub labels_next : (t : ℕ → Bool) (piece : ℕ → ℕ) (k : ℕ) → labels t piece (k + 1) ≡ cond (t k) (put (labels t piece k) (piece k)) (labels t piece k)
unfolding labels
labels_next t piece k = ap (labels t piece) (add-one k)

module _ (m : RouteBook) (fits : well_formed m ≡ true) (piece : ℕ → ℕ) {label : List ℕ} (now : Labelled m piece label) where
  -- the label of an end of any lightpath, also of one that there is not: its ends are 0
  module _ (f : Lightpath → ℕ) (z : f no_lightpath ≡ 0) (low : (k : ℕ) → k < length m.lightpaths → f (get_or m.lightpaths k no_lightpath) < 64)
      {r : List ℕ} (t : Table 96 (λ k. get_or label (get_or (padded 96 (map f m.lightpaths)) k 0) 0) 96 r) where
    none_there : (k : ℕ) → length m.lightpaths ≤ k → f (get_or m.lightpaths k no_lightpath) ≡ 0
    none_there k l = ap f (get_or-eq_default m.lightpaths no_lightpath {n = k} l) ∙ z

    all_low : (k : ℕ) → f (get_or m.lightpaths k no_lightpath) < 64
    all_low k = go (dec_lt k (length m.lightpaths))
      where
        go : Dec (k < length m.lightpaths) → f (get_or m.lightpaths k no_lightpath) < 64
        go (yes l) = low k l
        go (no n) = omega (arith, none_there k (omega arith))

    end_is : (k : ℕ) → piece (f (get_or m.lightpaths k no_lightpath)) ≡ get_or r k 0
    end_is k = go (dec_lt k 96)
      where
        go : Dec (k < 96) → piece (f (get_or m.lightpaths k no_lightpath)) ≡ get_or r k 0
        go (yes l) =
            sym (now.same (f (get_or m.lightpaths k no_lightpath)) (all_low k))
            ∙ ap (λ (i : ℕ). get_or label i 0) (sym (column_at 96 f m.lightpaths no_lightpath z k))
            ∙ sym (t.each k l)
        go (no n) =
            ap piece (none_there k (omega (arith, counts m fits)))
            ∙ omega (arith, now.falls 0, get_or-eq_default r 0 {n = k} (omega (arith, t.long)))

  -- THE LAW of the network: with labels in place of ends it is that over the pieces
  pub net_is : {from to : List ℕ} → Table 96 (λ k. get_or label (get_or (book_of m).from k 0) 0) 96 from
      → Table 96 (λ k. get_or label (get_or (book_of m).to k 0) 0) 96 to → over (network m) piece ≡ net_of (length m.lightpaths) from to
  net_is a b =
      ap₂ (λ (f t : ℕ → ℕ). record { count = length m.lightpaths; from = f; to = t })
      (fun_ext (end_is (λ (p : Lightpath). p.ends.from) refl (λ k l. (ends_lt m fits k l).0) a))
      (fun_ext (end_is (λ (p : Lightpath). p.ends.to) refl (λ k l. (ends_lt m fits k l).1) b))

  -- and each of its ends is that of a node
  pub label_low : (i : ℕ) → get_or label i 0 < 64
  label_low = table_low {f = piece} (record { long = now.long; each = now.same }) (λ i l. omega (arith, now.falls i))

-- the lowest number of a set is the first that is in it
lowest_first : (s : ℕ) → count_trailing_zeros 64 s ≡ lowest_of (has s) 64
lowest_first s = go (dec_lt (count_trailing_zeros 64 s) 64)
  where
    go : Dec (count_trailing_zeros 64 s < 64) → count_trailing_zeros 64 s ≡ lowest_of (has s) 64
    go (yes l) =
        first_only (has s) (λ k. k) 64 64 0
        (there (count_trailing_zeros 64 s) zero-le (omega arith) (has_true s (count_trailing_zeros 64 s) (low_in 64 s l)) (λ y a b. has_false s y (low_below 64 s y b)))
    go (no n) =
        let z : count_trailing_zeros 64 s ≡ 64 = omega (arith, trailing_le 64 s) in
        z ∙ first_only (has s) (λ k. k) 64 64 0 (nowhere (λ y a b. has_false s y (low_below 64 s y (omega arith))))

-- a ring that is merged
module _ (m : RouteBook) (fits : well_formed m ≡ true) (piece : ℕ → ℕ) {label : List ℕ} (now : Labelled m piece label)
    (k : ℕ) (l : k < length m.lightpaths) (ring : merges m piece k ≡ true) where
  abbrev net : Network
  net = over (network m) piece

  -- what a ring touches is the label of some station
  touch_above : {ks : List ℕ} → Under (length m.lightpaths) ks → (q : ℕ) → touches net ks q ≡ true → lowest m ≤ q
  unfolding touches
  touch_above nothing q h = absurd (false≢true h)
  touch_above (one_more {k = j} {ks = ks} r u) q h = go (touch_above u q) (or_inv _ _ h)
    where
      ends : (eqb (net.from j) q ≡ true) ⊎ (eqb (net.to j) q ≡ true) → lowest m ≤ q
      ends (inl e) = omega (arith, eqb-true (net.from j) q e, now.above ((network m).from j) (ends_stations m fits j r).0)
      ends (inr e) = omega (arith, eqb-true (net.to j) q e, now.above ((network m).to j) (ends_stations m fits j r).1)

      go : (touches net ks q ≡ true → lowest m ≤ q) → ((eqb (net.from j) q || eqb (net.to j) q) ≡ true) ⊎ (touches net ks q ≡ true) → lowest m ≤ q
      go ih (inl e) = ends (or_inv (eqb (net.from j) q) (eqb (net.to j) q) e)
      go ih (inr e) = ih e

  lowest_above : lowest m ≤ lowest_label m piece (ring_of m piece k)
  unfolding lowest_label
  lowest_above = go (dec_lt (lowest_of (touches net (ring_of m piece k)) 64) 64)
    where
      go : Dec (lowest_of (touches net (ring_of m piece k)) 64 < 64) → lowest m ≤ lowest_of (touches net (ring_of m piece k)) 64
      go (yes q) = touch_above (under m piece k l ring) _ (lowest_passes (touches net (ring_of m piece k)) 64 q).holds
      go (no q) = omega (arith, lowest_lt m fits)

  -- THE LAW of a merge: the relabelled array has the merged labels
  pub ring_labelled : (low high : List ℕ) {s : ℕ} {label' : List ℕ} → s ≡ (trail_of net low high k).touched.mask
      → Table 64 (λ i. relabelled s (count_trailing_zeros 64 s) (get_or label i 0)) 64 label' → Labelled m (merged m piece (ring_of m piece k)) label'
  unfolding merged lowest_label
  ring_labelled low high {s} {label'} e t =
      let same : (q : ℕ) → has s q ≡ touches net (ring_of m piece k) q = λ q. ap (λ (x : ℕ). has x q) e ∙ touched_is net low high k q in
      let z : count_trailing_zeros 64 s ≡ lowest_of (touches net (ring_of m piece k)) 64 = lowest_first s ∙ ap (λ (p : ℕ → Bool). lowest_of p 64) (fun_ext same) in
      record {
        long = t.long;
        same = λ i q. t.each i q ∙ rw (now.same i q, same (piece i), z);
        falls = λ i. omega (arith, merged_le m fits piece k l i, now.falls i);
        above = λ i h. go i h (touches net (ring_of m piece k) (piece i));
      }
    where
      go : (i : ℕ) → has (stations m) i ≡ true → (b : Bool) → lowest m ≤ cond b (lowest_of (touches net (ring_of m piece k)) 64) (piece i)
      go i h true = lowest_above
      go i h false = now.above i h
