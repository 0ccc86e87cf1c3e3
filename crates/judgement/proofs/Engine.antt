-- THE LOOP of the second engine: after so many merges, the pieces that the definition ends with are those that it makes of the present ones.
-- Each merge makes the sum of the labels less, so that there are fewer merges than the definition allows.
use Prim.Native.Nat.{ℕ, suc, ◌+◌, ◌-◌, ◌<◌, ◌≤◌}
use mathlib.Core.Path.{◌≡◌, refl, sym, ap, ap₂, ◌∙◌, subst}
use mathlib.Core.List.{List}
use mathlib.Core.Bool.{true, false, cond, false≢true}
use native.Mathlib.Nat.{le_refl}
use native.Mathlib.Decide.{dec_lt}
use native.Mathlib.Omega.{arith}
use lib.Count.{count_trailing_zeros}
use lib.Dec.{ltb}
use lib.ListN.{length, get_or}
use borrow.Author.Tests.{ltb-true, ltb-false}
use Rattle.book.specs.declared.Book.{Book}
use Rattle.book.specs.Book.{RouteBook, well_formed}
use Rattle.book.specs.Memory.{book_of}
use Rattle.judgement.specs.Network.{Network}
use Rattle.judgement.specs.Judgement.{network, lowest, first_of, sum}
use Rattle.judgement.specs.Pieces.{over}
use Rattle.judgement.specs.Contraction.{merges, taken, contract, merges_in, pieces}
use Rattle.judgement.specs.Merge.{Table, relabelled, NetOver, Labelled, PiecesOf, merges_by, ring_at}
use Rattle.std.specs.Prelude.{Option, Some, None}
use Rattle.judgement.specs.Inside.{net_of}
use Rattle.judgement.specs.Nets.{net_in}
use Rattle.judgement.specs.declared.side.Side.{Side}
use Rattle.judgement.specs.declared.net.Net.{Net}
use Rattle.judgement.specs.declared.label.Labels.{Labels}
use Rattle.judgement.proofs.First.{first_alike}
use Rattle.judgement.proofs.Sums.{sum_most}
use Rattle.judgement.proofs.Stations.{lowest_least}
use Rattle.judgement.proofs.Lowest.{first_lowest}
use Rattle.judgement.proofs.Merges.{merges_inv, merged_less}
use Rattle.judgement.proofs.Contracts.{after, taken_is, contract_next, merges_next, contract_end, merges_end}
use Rattle.judgement.proofs.Trails.{ring_hit, ring_miss}
use Rattle.judgement.proofs.Carried.{merges_is}
use Rattle.judgement.proofs.LabelArrays.{net_is, ring_labelled}

-- what holds after so many merges
pub record Going (m : RouteBook) (label : List ℕ) (made : ℕ) : Type 0 where
  pub piece : ℕ → ℕ
  pub labelled : Labelled m piece label
  pub left : contract m (4096 - made) piece ≡ contract m 4096 (λ i. i)
  pub count : merges_in m (4096 - made) piece + made ≡ merges_in m 4096 (λ i. i)
  pub light : sum piece 64 + made ≤ 4032

module _ (m : RouteBook) (fits : well_formed m ≡ true) where
  pub going_start : {label : List ℕ} → Table 64 (λ i. i) 64 label → Going m label 0
  going_start t = record {
    piece = λ i. i;
    labelled = record {
      long = t.long;
      same = t.each;
      falls = λ i. le_refl i;
      above = λ i h. elim (dec_lt i (lowest m)) [ yes l ↦ absurd (false≢true (sym (lowest_least m fits i l) ∙ h)) | no l ↦ omega arith ];
    };
    left = ap (λ (f : ℕ). contract m f (λ i. i)) (omega arith);
    count = let z : 4096 - 0 ≡ 4096 = omega arith in rw z (omega arith);
    light = omega (arith, sum_most 63 (λ i. i) 64 (λ i l. omega arith));
  }

  module _ {b : Book} (e : b ≡ book_of m) {label : List ℕ} {made : ℕ} (now : Going m label made) {w n : Net} (is : (w.n ≡ b.lightpaths) × (w.from ≡ b.from) × (w.to ≡ b.to)) (o : NetOver label w n) where
    abbrev net : Network
    net = over (network m) now.piece

    abbrev next : ℕ
    next = taken m now.piece

    over_is : net ≡ net_in n
    over_is =
        net_is m fits now.piece now.labelled
        (subst (λ (xs : List ℕ). Table 96 (λ k. get_or label (get_or xs k 0) 0) 96 n.from) (is.1 ∙ ap (λ (x : Book). x.from) e) o.from)
        (subst (λ (xs : List ℕ). Table 96 (λ k. get_or label (get_or xs k 0) 0) 96 n.to) (is.2 ∙ ap (λ (x : Book). x.to) e) o.to)
        ∙ ap (λ (c : ℕ). net_of c n.from n.to) (sym (o.count ∙ is.0 ∙ ap (λ (x : Book). x.lightpaths) e))

    module _ {r : Option Side} (h : r ≡ first_of (merges_by (net_in n) b.low b.high) (ring_at (net_in n) b.low b.high) None n.n 0) where
      ring_is : r ≡ cond (ltb next (length m.lightpaths)) (ring_at net (book_of m).low (book_of m).high next) None
      unfolding taken
      ring_is =
          let low = (book_of m).low in
          let high = (book_of m).high in
          h
          ∙ ap₂ (λ (x : Network) (y : Book). first_of (merges_by x y.low y.high) (ring_at x y.low y.high) None x.count 0)
          (sym over_is) e
          ∙ first_alike (merges_by net low high) (merges m now.piece) (ring_at net low high) (ring_at net low high) None (length m.lightpaths) 0
          (λ k p q. (sym (merges_is m fits now.piece k (omega arith)), refl))
          ∙ first_lowest (merges m now.piece) (ring_at net low high) None (length m.lightpaths)

      pub going_next : {s : Side} {label' : List ℕ} → r ≡ Some s
          → Table 64 (λ i. relabelled s.mask (count_trailing_zeros 64 s.mask) (get_or label i 0)) 64 label' → Going m label' (made + 1)
      going_next {s} {label'} is u =
          let hit = ring_hit (sym is ∙ ring_is) in
          let l = ltb-true next (length m.lightpaths) hit.0 in
          let ring = (taken_is m now.piece l).holds in
          let z : 4096 - made ≡ suc (4096 - (made + 1)) = omega (arith, now.light) in
          record {
            piece = after m now.piece;
            labelled = ring_labelled m fits now.piece now.labelled next l ring (book_of m).low (book_of m).high (ap (λ (x : Side). x.mask) hit.1) u;
            left = sym (contract_next m now.piece (4096 - (made + 1)) l) ∙ ap (λ (d : ℕ). contract m d now.piece) (sym z) ∙ now.left;
            count = omega (arith, now.count, merges_next m now.piece (4096 - (made + 1)) l, ap (λ (d : ℕ). merges_in m d now.piece) z);
            light = omega (arith, now.light, merged_less m fits now.piece next l (merges_inv m now.piece next ring));
          }

      pub going_done : r ≡ None → (ls : Labels) → ls.of ≡ label → PiecesOf m (record { labels = ls; merges = made })
      going_done is ls same =
          let miss : ltb next (length m.lightpaths) ≡ false = ring_miss _ _ (sym is ∙ ring_is) in
          let over : next < length m.lightpaths → ⊥ = λ q. omega (arith, ltb-false next (length m.lightpaths) miss) in
          record {
            labelled = subst (λ (l : List ℕ). Labelled m (pieces m) l) (sym same) (subst (λ (p : ℕ → ℕ). Labelled m p label) (sym (contract_end m now.piece (4096 - made) over) ∙ now.left) now.labelled);
            counted = omega (arith, now.count, merges_end m now.piece (4096 - made) over);
          }

  -- the sum of the labels leaves room for one merge more
  pub going_room : {label : List ℕ} {made : ℕ} → Going m label made → made ≤ 4032
  going_room now = omega (arith, now.light)
