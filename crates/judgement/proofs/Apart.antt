-- F FROM THE ARRAYS: a lightpath's word holds a span exactly if its route does, and the side by the words is the side of the book, so each pair that the
-- code counts is a pair that F counts. The spans below 64 are in one word and the others in the next, so the sum over all spans is two sums.
use Prim.Native.Nat.{ℕ, ◌+◌, ◌-◌, ◌*◌, ◌≤◌, ◌<◌, min}
use mathlib.Core.Path.{◌≡◌, refl, sym, ap, ap₂, ◌∙◌}
use mathlib.Core.List.{List}
use mathlib.Core.Bool.{Bool, true, false, not, ◌&&◌}
use native.Mathlib.Omega.{arith}
use lib.ListN.{length, get_or}
use Rattle.book.specs.declared.Book.{Book}
use Rattle.book.specs.Book.{Lightpath, RouteBook, well_formed}
use Rattle.book.specs.Bits.{has}
use Rattle.book.specs.Memory.{book_of}
use Rattle.book.proofs.Bounds.{counts}
use Rattle.book.proofs.Lightpaths.{column_at}
use Rattle.book.proofs.Tallies.{one_most}
use Rattle.book.proofs.Words.{low_has, high_has}
use Rattle.book.proofs.Writers.{no_lightpath}
use Rattle.judgement.specs.Network.{side_of}
use Rattle.judgement.specs.Judgement.{sum, one, rides, network, without, apart, score_f}
use Rattle.judgement.specs.Inside.{net_of, up_of, up_table, unset, parted_by, apart_at, apart_on, apart_in}
use Rattle.judgement.proofs.Sums.{sum_alike, sum_most, sum_split}
use Rattle.judgement.proofs.Tables.{table_at, table_side}
use Rattle.judgement.proofs.Held.{route_rides, side_low, side_high}

-- by the array of what is up, and by the words
module _ (n : ℕ) (from to words : List ℕ) (i : ℕ) (few : n ≤ 96) where
  not_twice : (t : Bool) → not (not t) ≡ t
  not_twice true = refl
  not_twice false = refl

  parted_apart : {u : List Bool} → u ≡ up_table (unset words i) n → (k : ℕ) → k < n → parted_by n from to (up_of u) k ≡ apart_at n from to words i k
  parted_apart e k l =
      ap₂ (λ (s t : Bool). s && t)
      (ap not (ap (λ (x : List Bool). get_or x k false) e ∙ table_at (unset words i) n k few l) ∙ not_twice (has (get_or words k 0) i))
      (ap (λ (x : ℕ). not (has x (get_or to k 0))) (table_side (unset words i) n from to few e 64 (get_or from k 0)))

  -- the count by either
  pub parted_sum : {u : List Bool} {r : ℕ} → u ≡ up_table (unset words i) n → r ≡ sum (λ k. one (parted_by n from to (up_of u) k)) n → r ≡ apart_on n from to words i
  parted_sum {u} e is = is ∙ sum_alike (λ k. one (parted_by n from to (up_of u) k)) (λ k. one (apart_at n from to words i k)) n (λ k l. ap one (parted_apart e k l))

-- how many can pass a test, and how many pairs there can be for all numbers below c
pub ones_few : (t : ℕ → Bool) (k : ℕ) → sum (λ j. one (t j)) k ≤ k
ones_few t k = omega (arith, sum_most 1 (λ j. one (t j)) k (λ j l. one_most (t j)))

pub apart_most : (n : ℕ) (from to words : List ℕ) (c : ℕ) → n ≤ 96 → apart_in n from to words c ≤ 96 * c
apart_most n from to words c few = sum_most 96 (λ i. apart_on n from to words i) c (λ i l. omega (arith, ones_few (λ k. apart_at n from to words i k) n))

-- the book that the arrays hold
module _ (m : RouteBook) {b : Book} (e : b ≡ book_of m) where
  from_is : (k : ℕ) → get_or b.from k 0 ≡ (network m).from k
  from_is k = rw e (column_at 96 (λ (p : Lightpath). p.ends.from) m.lightpaths no_lightpath refl k)

  to_is : (k : ℕ) → get_or b.to k 0 ≡ (network m).to k
  to_is k = rw e (column_at 96 (λ (p : Lightpath). p.ends.to) m.lightpaths no_lightpath refl k)

  -- the pairs of one span
  abbrev pairs : ℕ → ℕ
  pairs x = sum (λ k. one (apart m x k)) (length m.lightpaths)

  -- where the words hold the span x as the number i
  module _ (words : List ℕ) (x i : ℕ) (holds : (k : ℕ) → k < length m.lightpaths → has (get_or words k 0) i ≡ rides m x k)
      (side : (s : ℕ) → side_of (net_of b.lightpaths b.from b.to) (unset words i) 64 s ≡ side_of (network m) (without m x) 64 s) where
    pair_is : (k : ℕ) → k < length m.lightpaths → apart_at b.lightpaths b.from b.to words i k ≡ apart m x k
    pair_is k l =
        ap₂ (λ (s t : Bool). s && not t) (holds k l)
        (ap₂ has (side (get_or b.from k 0) ∙ ap (λ (s : ℕ). side_of (network m) (without m x) 64 s) (from_is k)) (to_is k))

    span_is : apart_on b.lightpaths b.from b.to words i ≡ pairs x
    span_is =
        let f : ℕ → ℕ = λ k. one (apart_at b.lightpaths b.from b.to words i k) in
        ap (sum f) (ap (λ (y : Book). y.lightpaths) e) ∙ sum_alike f (λ k. one (apart m x k)) (length m.lightpaths) (λ k l. ap one (pair_is k l))

  low_is : (x : ℕ) → x < 64 → apart_on b.lightpaths b.from b.to b.low x ≡ pairs x
  low_is x l = span_is b.low x x (λ k w. rw e (low_has m k x l ∙ route_rides m x (64 * 0 + x) k w (omega arith))) (λ s. side_low m e s x l)

  high_is : (x : ℕ) → 64 ≤ x → x < 128 → apart_on b.lightpaths b.from b.to b.high (x - 64) ≡ pairs x
  high_is x h l =
      span_is b.high x (x - 64) (λ k w. rw e (high_has m k (x - 64) (omega arith) ∙ route_rides m x (64 * 1 + (x - 64)) k w (omega arith))) (λ s. side_high m e s x h l)

  -- THE LAW: the first f spans are counted over the lower words, and the r others over the upper
  module _ (fits : well_formed m ≡ true) {f r : ℕ} (first : f ≡ min b.spans 64) (others : r ≡ b.spans - f) where
    beyond : (i : ℕ) → i < r → apart_on b.lightpaths b.from b.to b.high i ≡ pairs (f + i)
    beyond i l =
        let all : b.spans ≡ length m.spans = ap (λ (y : Book). y.spans) e in
        let there : f + i - 64 ≡ i = omega arith in
        rw there at (high_is (f + i) (omega arith) (omega (arith, counts m fits)))

    pub score_is : {low high : ℕ} → low ≡ apart_in b.lightpaths b.from b.to b.low f → high ≡ apart_in b.lightpaths b.from b.to b.high r → low + high ≡ score_f m
    score_is p q =
        let all : b.spans ≡ length m.spans = ap (λ (y : Book). y.spans) e in
        let whole : f + r ≡ length m.spans = omega arith in
        ap₂ (λ (x y : ℕ). x + y)
        (p ∙ sum_alike (λ i. apart_on b.lightpaths b.from b.to b.low i) pairs f (λ i l. low_is i (omega arith)))
        (q ∙ sum_alike (λ i. apart_on b.lightpaths b.from b.to b.high i) (λ i. pairs (f + i)) r beyond)
        ∙ sym (sum_split pairs f r) ∙ ap (sum pairs) whole
