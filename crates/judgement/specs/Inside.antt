-- What the private functions of the crate tell each other: a network held in arrays.
use Rattle.std.specs.Prelude.{ℕ, zero, suc, ◌+◌, ◌^◌, ◌<◌, ◌≤◌, ◌≡◌, List, ◌⊎◌, Bool, true, false, cond, not, ◌&&◌, length, get_or, set, replicate, eqb, Option, Some, None}
use Rattle.std.specs.Int.Bits.{bit_and, bit_or, bit_xor}
use Rattle.std.specs.Int.Count.{count_trailing_zeros}
use Rattle.book.specs.Bits.{bit, has, put}
use Rattle.book.specs.declared.Book.{Book}
use Rattle.judgement.specs.declared.side.Growth.{Growth}
use Rattle.judgement.specs.declared.kind.Parted.{Parted}
use Rattle.judgement.specs.declared.Verdict.{Verdict}
use Rattle.judgement.specs.declared.Verdict.TheVariants.{Cut}
use Rattle.judgement.specs.Network.{Network, Link, side_of}
use Rattle.judgement.specs.Judgement.{sum, one}

-- the network of n lightpaths whose ends stand in two arrays, and which of them are up by a third
abbrev pub net_of : ℕ → List ℕ → List ℕ → Network
net_of n from to = record { count = n; from = λ k. get_or from k 0; to = λ k. get_or to k 0 }

abbrev pub up_of : List Bool → ℕ → Bool
up_of up k = get_or up k false

-- what the code relies on in such arrays
pub record Fits (n : ℕ) (from to : List ℕ) : Type 0 where
  pub few : n ≤ 96
  pub from_low : (k : ℕ) → get_or from k 0 < 64
  pub to_low : (k : ℕ) → get_or to k 0 < 64

-- rows of sets with both ends of a lightpath put into the row of each, where it is up
abbrev pub ends_into : ℕ → ℕ → ℕ → List ℕ → List ℕ
ends_into a b x rows = set rows x (put (put (get_or rows x 0) a) b)

abbrev pub noted : Bool → ℕ → ℕ → List ℕ → List ℕ
noted u a b rows = cond u (ends_into a b b (ends_into a b a rows)) rows

-- row x of W has the other ends of the lightpaths that are up and end at x, and at most x besides
pub record Leads (W : ℕ) (net : Network) (up : ℕ → Bool) (rows : List ℕ) : Type 0 where
  pub long : length rows ≡ W
  pub low : (x : ℕ) → get_or rows x 0 < 2 ^ W
  pub only : (x y : ℕ) → bit (get_or rows x 0) y ≡ 1 → (x ≡ y) ⊎ Link net up x y
  pub all : (x y : ℕ) → Link net up x y → bit (get_or rows x 0) y ≡ 1

-- such rows, of lightpaths whose ends are below W; and rows that are such of some lightpaths
pub record Led (W : ℕ) (rows : List ℕ) (net : Network) (up : ℕ → Bool) : Type 0 where
  pub ends : (k : ℕ) → k < net.count → (net.from k < W) × (net.to k < W)
  pub leads : Leads W net up rows

pub record LedBySome (W : ℕ) (rows : List ℕ) : Type 0 where
  pub net : Network
  pub up : ℕ → Bool
  pub led : Led W rows net up

-- d is the side of some node
pub record OneSide (W : ℕ) (net : Network) (up : ℕ → Bool) (d : ℕ) : Type 0 where
  pub start : ℕ
  pub low : start < W
  pub is : d ≡ side_of net up W start

-- the set r of which the part q has been looked at; the node that is looked at next, the lowest of those left; and with what that leads to put in
abbrev pub growth : ℕ → ℕ → Growth
growth r q = record { side = record { mask = r }; seen = record { mask = q } }

abbrev pub next_in : Growth → ℕ
next_in g = count_trailing_zeros 64 (bit_xor g.side.mask g.seen.mask)

abbrev pub took_in : Growth → List ℕ → Growth
took_in g rows = growth (bit_or g.side.mask (get_or rows (next_in g) 0)) (put g.seen.mask (next_in g))

-- the first n of 96 places by a test, and false beyond
unfoldable pub up_table : (ℕ → Bool) → ℕ → List Bool
up_table t zero = replicate 96 false
up_table t (suc n) = set (up_table t n) n (t n)

-- whether word k, a set, has not the number i
abbrev pub unset : List ℕ → ℕ → ℕ → Bool
unset words i k = not (has (get_or words k 0) i)

-- whether words k, two sets, share no number with the sets low and high
abbrev pub clear : List ℕ → List ℕ → ℕ → ℕ → ℕ → Bool
clear lows highs low high k = eqb (bit_or (bit_and (get_or lows k 0) low) (bit_and (get_or highs k 0) high)) 0

-- with bit i of the words out: the side of the lowest station, whether it lacks a station, and the answer that names the span
abbrev pub side_in : Book → List ℕ → ℕ → ℕ
side_in b words i = side_of (net_of b.lightpaths b.from b.to) (unset words i) 64 (count_trailing_zeros 64 b.stations)

abbrev pub parts_in : Book → List ℕ → ℕ → Bool
parts_in b words i = not (eqb (side_in b words i) b.stations)

abbrev pub parted_at : ℕ → ℕ → Option Parted
parted_at x d = Some (record { span = x; side = d })

abbrev pub cut_in : Book → List ℕ → ℕ → ℕ → Option Parted
cut_in b words base i = parted_at (base + i) (side_in b words i)

-- lightpath k is not up, and its ends are not joined by those that are
abbrev pub parted_by : ℕ → List ℕ → List ℕ → (ℕ → Bool) → ℕ → Bool
parted_by n from to up k = not (up k) && not (has (side_of (net_of n from to) up 64 (get_or from k 0)) (get_or to k 0))

-- word k has the number i, and the ends of lightpath k are not joined by those whose words have it not
abbrev pub apart_at : ℕ → List ℕ → List ℕ → List ℕ → ℕ → ℕ → Bool
apart_at n from to words i k = has (get_or words k 0) i && not (has (side_of (net_of n from to) (unset words i) 64 (get_or from k 0)) (get_or to k 0))

-- how many such lightpaths there are for the number i, and for all numbers below count
abbrev pub apart_on : ℕ → List ℕ → List ℕ → List ℕ → ℕ → ℕ
apart_on n from to words i = sum (λ k. one (apart_at n from to words i k)) n

abbrev pub apart_in : ℕ → List ℕ → List ℕ → List ℕ → ℕ → ℕ
apart_in n from to words count = sum (λ i. apart_on n from to words i) count

-- the ends of the first n lightpaths are in the set d
pub record EndsIn (n : ℕ) (from to : List ℕ) (d : ℕ) : Type 0 where
  pub from_in : (k : ℕ) → k < n → has d (get_or from k 0) ≡ true
  pub to_in : (k : ℕ) → k < n → has d (get_or to k 0) ≡ true

-- CUT at the span that was found, or else the verdict `out`
abbrev pub cut_or : Verdict → Option Parted → Verdict
cut_or out (Some p) = Cut p.span p.side
cut_or out None = out

-- how many of the numbers below k are in the set x
unfoldable pub size : ℕ → ℕ → ℕ
size zero x = 0
size (suc k) x = size k x + bit x k
