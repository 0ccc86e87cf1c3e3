-- The judgement of a book as it stands, and so of the chosen book of a choice: docs/JUDGEMENT.md, in that order.
use Rattle.std.specs.Prelude.{ℕ, zero, suc, ◌+◌, ◌-◌, Bool, true, false, cond, not, ◌&&◌, eqb, ltb, length}
use Rattle.std.specs.Int.Count.{count_trailing_zeros}
use Rattle.book.specs.Book.{RouteBook, most_nodes, among, span_at}
use Rattle.book.specs.Bits.{has, station_set}
use Rattle.book.specs.Choice.{lightpath_at}
use Rattle.judgement.specs.Network.{Network, side_of}
use Rattle.judgement.specs.declared.Verdict.{Verdict}
use Rattle.judgement.specs.declared.Verdict.TheVariants.{Over, Split, Cut, Okay}

-- J1: lightpath k rides span x where its route holds it
abbrev pub rides : RouteBook → ℕ → ℕ → Bool
rides m x k = among x (lightpath_at m.lightpaths k).route.spans

-- the sum of f at the first n numbers; a test as a number
unfoldable pub sum : (ℕ → ℕ) → ℕ → ℕ
sum f zero = 0
sum f (suc n) = sum f n + f n

abbrev pub one : Bool → ℕ
one t = cond t 1 0

-- J2: the load of a span is the number of lightpaths that ride it
abbrev pub load : RouteBook → ℕ → ℕ
load m x = sum (λ k. one (rides m x k)) (length m.lightpaths)

abbrev pub limit : RouteBook → ℕ → ℕ
limit m x = (span_at m.spans x).limit

-- J4: the network of a book
abbrev pub network : RouteBook → Network
network m = record {
  count = length m.lightpaths;
  from = λ k. (lightpath_at m.lightpaths k).ends.from;
  to = λ k. (lightpath_at m.lightpaths k).ends.to;
}

-- J3: which lightpaths are up with span x out, and when all is up
abbrev pub without : RouteBook → ℕ → ℕ → Bool
without m x k = not (rides m x k)

abbrev pub all_up : ℕ → Bool
all_up k = true

-- J8: the stations as a set (B47), and the lowest-numbered of them
abbrev pub stations : RouteBook → ℕ
stations m = station_set m.nodes

abbrev pub lowest : RouteBook → ℕ
lowest m = count_trailing_zeros most_nodes (stations m)

-- J8, J9: the side of a state, and whether it holds all stations
abbrev pub side : RouteBook → (ℕ → Bool) → ℕ
side m up = side_of (network m) up most_nodes (lowest m)

abbrev pub whole : RouteBook → (ℕ → Bool) → Bool
whole m up = eqb (side m up) (stations m)

-- the answer f at the first of d numbers from k at which the test holds; else the answer out
unfoldable pub first_of : {A : Type 0} → (ℕ → Bool) → (ℕ → A) → A → ℕ → ℕ → A
first_of t f out zero k = out
first_of t f out (suc d) k = let r = first_of t f out d (suc k) in cond (t k) (f k) r

-- J13, J14: CUT at the lowest span without whose lightpaths some station is not joined, else OK
abbrev pub cut_or_okay : RouteBook → Verdict
cut_or_okay m = first_of (λ x. not (whole m (without m x))) (λ x. Cut x (side m (without m x))) Okay (length m.spans) 0

-- J12: SPLIT where with all lightpaths up some station is not joined
abbrev pub split_or : RouteBook → Verdict
split_or m = let r = cut_or_okay m in cond (whole m all_up) r (Split (side m all_up))

-- J11: OVER at the lowest span whose load exceeds its limit
abbrev pub verdict : RouteBook → Verdict
verdict m = let r = split_or m in first_of (λ x. ltb (limit m x) (load m x)) (λ x. Over x (load m x) (limit m x)) r (length m.spans) 0

-- J15: acceptable
abbrev pub is_okay : Verdict → Bool
is_okay (Over x l w) = false
is_okay (Split d) = false
is_okay (Cut x d) = false
is_okay Okay = true

abbrev pub acceptable : RouteBook → Bool
acceptable m = is_okay (verdict m)

-- J19: F counts the pairs of lightpath and span where the route holds the span and the lightpath's ends are not joined with it out
abbrev pub apart : RouteBook → ℕ → ℕ → Bool
apart m x k = rides m x k && not (has (side_of (network m) (without m x) most_nodes ((network m).from k)) ((network m).to k))

abbrev pub score_f : RouteBook → ℕ
score_f m = sum (λ x. sum (λ k. one (apart m x k)) (length m.lightpaths)) (length m.spans)

-- J20: Fc sums what the loads have above the limits
abbrev pub score_fc : RouteBook → ℕ
score_fc m = sum (λ x. load m x - limit m x) (length m.spans)
