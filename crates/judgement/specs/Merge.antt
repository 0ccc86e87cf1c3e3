-- What the private functions of the second engine tell each other: ways and rings in a network held in arrays, and labels in arrays.
use Rattle.std.specs.Prelude.{ℕ, ◌*◌, ◌<◌, ◌≤◌, ◌≡◌, List, [], ◌∷◌, Bool, true, cond, not, ◌&&◌, eqb, length, get_or, Option, Some}
use Rattle.std.specs.Int.Bits.{bit_or, bit_and}
use Rattle.book.specs.declared.Book.{Book}
use Rattle.book.specs.Book.{RouteBook, most_nodes}
use Rattle.book.specs.Memory.{remade}
use Rattle.book.specs.Bits.{has, put}
use Rattle.judgement.specs.Network.{Network}
use Rattle.judgement.specs.Judgement.{stations, lowest, first_of}
use Rattle.judgement.specs.Pieces.{labels}
use Rattle.judgement.specs.Ways.{near, leads, way}
use Rattle.judgement.specs.Contraction.{merges_in, pieces}
use Rattle.judgement.specs.declared.Verdict.{Verdict}
use Rattle.judgement.specs.declared.Verdict.TheVariants.{Over, Split, Cut, Okay}
use Rattle.judgement.specs.declared.merge.Pieces.{Pieces}
use Rattle.judgement.specs.declared.ways.Rounds.{Rounds}
use Rattle.judgement.specs.declared.ring.Carried.{Carried}
use Rattle.judgement.specs.declared.ring.Trail.{Trail}
use Rattle.judgement.specs.declared.side.Side.{Side}
use Rattle.judgement.specs.declared.net.Net.{Net}

-- all lightpaths but one
abbrev pub but : ℕ → ℕ → Bool
but skip k = not (eqb k skip)

-- where a lightpath from a to b leads from x
abbrev pub far_by : ℕ → ℕ → ℕ → ℕ
far_by x a b = cond (eqb a x) b a

-- the rounds from y up to the last: with all 64 no more would be known of x, and its way would be the same
pub record RoundsTo (net : Network) (free : ℕ → Bool) (y x : ℕ) (r : Rounds) : Type 0 where
  pub long : length r.sets ≡ 65
  pub few : r.last ≤ 64
  pub each : (j : ℕ) → j ≤ r.last → get_or r.sets j 0 ≡ near net free y j
  pub met : has (near net free y 64) x ≡ has (near net free y r.last) x
  pub same : has (near net free y r.last) x ≡ true → way net free y 64 x ≡ way net free y r.last x

-- one word more: what was seen in some word, and what in two
abbrev pub seen_by : Carried → ℕ → Carried
seen_by c w = record { once = bit_or c.once w; twice = bit_or c.twice (bit_and c.once w) }

-- a trail with one lightpath more, from a to b
abbrev pub trail_by : Trail → ℕ → ℕ → ℕ → ℕ → Trail
trail_by t a b l h = record { at = far_by t.at a b; touched = record { mask = put (put t.touched.mask a) b }; low = seen_by t.low l; high = seen_by t.high h }

module _ (net : Network) (low high : List ℕ) where
  abbrev pub with_path : Trail → ℕ → Trail
  with_path t k = trail_by t (net.from k) (net.to k) (get_or low k 0) (get_or high k 0)

  -- with the lightpaths of a list, one after the other
  unfoldable pub gathered : List ℕ → Trail → Trail
  gathered [] t = t
  gathered (k ∷ ks) t = gathered ks (with_path t k)

  -- nothing is gathered yet, at the piece y
  abbrev pub empty_trail : ℕ → Trail
  empty_trail y = record { at = y; touched = record { mask = 0 }; low = record { once = 0; twice = 0 }; high = record { once = 0; twice = 0 } }

  -- K11: the ring of k and what it gathers: from the "to" of k over k itself to its "from", and on by the way
  abbrev pub ring_by : ℕ → List ℕ
  ring_by k = k ∷ way net (but k) (net.to k) 64 (net.from k)

  unfoldable pub trail_of : ℕ → Trail
  trail_of k = gathered (ring_by k) (empty_trail (net.to k))

  -- K12: lightpath k joins two pieces, and its ring may be merged
  unfoldable pub merges_by : ℕ → Bool
  merges_by k =
      not (eqb (net.from k) (net.to k))
      && (has (near net (but k) (net.to k) 64) (net.from k) && (eqb (trail_of k).low.twice 0 && eqb (trail_of k).high.twice 0))

  abbrev pub ring_at : ℕ → Option Side
  ring_at k = Some (trail_of k).touched

-- one step nearer, into the set m
unfoldable pub nearer_by : Network → (ℕ → Bool) → List ℕ → List ℕ → ℕ → Trail → Trail
nearer_by net free low high m t = cond (has m t.at) t (first_of (leads net free t.at m) (with_path net low high t) t net.count 0)

-- the first k of n places by a function
pub record Table (n : ℕ) (f : ℕ → ℕ) (k : ℕ) (r : List ℕ) : Type 0 where
  pub long : length r ≡ n
  pub each : (i : ℕ) → i < k → get_or r i 0 ≡ f i

-- the label q when the labels of a set are made one
abbrev pub relabelled : ℕ → ℕ → ℕ → ℕ
relabelled ring lowest q = cond (has ring q) lowest q

-- the network r is another with the labels of its ends in their place
pub record NetOver (label : List ℕ) (net r : Net) : Type 0 where
  pub count : r.n ≡ net.n
  pub from : Table 96 (λ k. get_or label (get_or net.from k 0) 0) 96 r.from
  pub to : Table 96 (λ k. get_or label (get_or net.to k 0) 0) 96 r.to

-- the array has the labels of the nodes; no label is above its node, and none of a station is below the lowest station
pub record Labelled (m : RouteBook) (piece : ℕ → ℕ) (label : List ℕ) : Type 0 where
  pub long : length label ≡ 64
  pub same : (i : ℕ) → i < 64 → get_or label i 0 ≡ piece i
  pub falls : (i : ℕ) → piece i ≤ i
  pub above : (i : ℕ) → has (stations m) i ≡ true → lowest m ≤ piece i

-- the pieces that the engine ends with, and how many merges that were
pub record PiecesOf (m : RouteBook) (r : Pieces) : Type 0 where
  pub labelled : Labelled m (pieces m) r.labels.of
  pub counted : r.merges ≡ merges_in m (most_nodes * most_nodes) (λ i. i)

-- the struct b with other ends and stations
abbrev pub with_ends : Book → List ℕ → List ℕ → ℕ → Book
with_ends b from to stations =
    remade b.nodes b.spans b.lightpaths b.alternatives stations b.left b.right b.limit from to b.owner b.len b.route b.low b.high

pub record OverPieces (b : Book) (label : List ℕ) (r : Book) : Type 0 where
  pub is : r ≡ with_ends b r.from r.to r.stations
  pub from : Table 96 (λ k. get_or label (get_or b.from k 0) 0) 96 r.from
  pub to : Table 96 (λ k. get_or label (get_or b.to k 0) 0) 96 r.to
  pub stations : r.stations ≡ labels (has b.stations) (λ i. get_or label i 0) 64

-- a side over pieces given in stations, and a verdict with its side given so
abbrev pub in_stations_by : ℕ → List ℕ → ℕ → ℕ
in_stations_by stations label side = labels (λ i. has stations i && has side (get_or label i 0)) (λ i. i) 64

abbrev pub given_in : ℕ → List ℕ → Verdict → Verdict
given_in stations label (Over x l w) = Over x l w
given_in stations label (Split d) = Split (in_stations_by stations label d)
given_in stations label (Cut x d) = Cut x (in_stations_by stations label d)
given_in stations label Okay = Okay
