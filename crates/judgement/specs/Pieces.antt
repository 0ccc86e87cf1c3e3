-- Pieces: stations that are taken as one, docs/CONTRACTION.md, section 1. A labelling gives each node a number, and the stations with one label make a piece.
use Rattle.std.specs.Prelude.{ℕ, zero, suc, ◌<◌, ◌≡◌, Bool, true, cond, not, ◌&&◌, eqb, length}
use Rattle.book.specs.Book.{RouteBook, most_nodes}
use Rattle.book.specs.Bits.{has, put}
use Rattle.judgement.specs.Network.{Network, Joined, side_of}
use Rattle.judgement.specs.Judgement.{network, without, all_up, stations, lowest, first_of}
use Rattle.judgement.specs.declared.Verdict.{Verdict}
use Rattle.judgement.specs.declared.Verdict.TheVariants.{Split, Cut, Okay}

-- K1: the network over pieces: each end of a lightpath is replaced by its piece
abbrev pub over : Network → (ℕ → ℕ) → Network
over net piece = record { count = net.count; from = λ k. piece (net.from k); to = λ k. piece (net.to k) }

-- the set of the labels of those numbers below k that pass a test
unfoldable pub labels : (ℕ → Bool) → (ℕ → ℕ) → ℕ → ℕ
labels t piece zero = 0
labels t piece (suc k) = let r = labels t piece k in cond (t k) (put r (piece k)) r

module _ (m : RouteBook) (piece : ℕ → ℕ) where
  -- K2: the side over pieces starts at the piece of the lowest station
  abbrev pub piece_side : (ℕ → Bool) → ℕ
  piece_side up = side_of (over (network m) piece) up most_nodes (piece (lowest m))

  -- K2: all pieces are joined where that side holds the piece of every station
  abbrev pub piece_whole : (ℕ → Bool) → Bool
  piece_whole up = eqb (piece_side up) (labels (has (stations m)) piece most_nodes)

  -- K3: a side over pieces is given in stations: those whose piece it holds
  abbrev pub in_stations : ℕ → ℕ
  in_stations s = labels (λ i. has (stations m) i && has s (piece i)) (λ i. i) most_nodes

  -- K4: SPLIT, CUT or OK over the pieces
  abbrev pub cut_over : Verdict
  cut_over = first_of (λ x. not (piece_whole (without m x))) (λ x. Cut x (in_stations (piece_side (without m x)))) Okay (length m.spans) 0

  abbrev pub split_over : Verdict
  split_over = let r = cut_over in cond (piece_whole all_up) r (Split (in_stations (piece_side all_up)))

  -- K5: the stations of each piece are joined by what is up
  abbrev pub Together : (ℕ → Bool) → Type 0
  Together up = (x y : ℕ) → has (stations m) x ≡ true → has (stations m) y ≡ true → piece x ≡ piece y → Joined (network m) up x y

  -- K5: the pieces hold together: with nothing out, and with any one span out; and labels are numbers of nodes
  pub record HoldTogether : Type 0 where
    pub low : (i : ℕ) → i < most_nodes → piece i < most_nodes
    pub intact : Together all_up
    pub each : (x : ℕ) → x < length m.spans → Together (without m x)

  -- K6: they hold together by a set of lightpaths alone
  pub record HoldBy (mine : ℕ → Bool) : Type 0 where
    pub low : (i : ℕ) → i < most_nodes → piece i < most_nodes
    pub intact : Together mine
    pub each : (x : ℕ) → x < length m.spans → Together (λ k. mine k && without m x k)
