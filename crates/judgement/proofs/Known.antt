-- ONE SIDE TELLS OF ANOTHER: sides are the parts of the nodes that chains join, so the side of a node in a known side is that side, and a node outside
-- it is joined to none in it. So where a known side holds all stations, and all ends are stations, no ends are apart.
use Prim.Native.Nat.{ℕ, ◌<◌}
use mathlib.Core.Path.{◌≡◌, refl, sym, ◌∙◌}
use mathlib.Core.List.{List}
use mathlib.Core.Logic.{◌↔◌}
use mathlib.Core.Bool.{Bool, true, false, ◌&&◌, false≢true}
use lib.ListN.{get_or}
use Rattle.book.specs.Bits.{has}
use Rattle.book.proofs.Bits.{has_true, true_has}
use Rattle.judgement.specs.Network.{Network, Joined, side_of}
use Rattle.judgement.specs.Judgement.{one}
use Rattle.judgement.specs.Inside.{net_of, Fits, OneSide, EndsIn, unset, apart_at, apart_on}
use Rattle.judgement.proofs.Chains.{join_trans, join_sym}
use Rattle.judgement.proofs.Joins.{side_joined}
use Rattle.judgement.proofs.Sums.{sum_none}
use Rattle.judgement.proofs.Tables.{ends}
use Rattle.judgement.proofs.Tests.{bool_iff}

module _ (W : ℕ) (net : Network) (up : ℕ → Bool) (low : (k : ℕ) → k < net.count → (net.from k < W) × (net.to k < W)) where
  -- what a side holds, as a test
  has_joined : (s i : ℕ) → s < W → (has (side_of net up W s) i ≡ true) ↔ Joined net up s i
  has_joined s i l = let j = side_joined net up W low s l i in ((λ h. j.0 (true_has _ i h)), (λ q. has_true _ i (j.1 q)))

  module _ {d : ℕ} (k : OneSide W net up d) where
    known_joined : (i : ℕ) → (has d i ≡ true) ↔ Joined net up k.start i
    known_joined i = rw k.is (has_joined k.start i k.low)

    -- the side of a node that is in it
    pub known_in : {a : ℕ} (b : ℕ) → a < W → has d a ≡ true → has d b ≡ has (side_of net up W a) b
    known_in {a} b l h =
        let to-a = (known_joined a).0 h in
        bool_iff (has d b) (has (side_of net up W a) b)
        (λ q. (has_joined a b l).1 (join_trans net up (join_sym net up to-a) ((known_joined b).0 q)))
        (λ q. (known_joined b).1 (join_trans net up to-a ((has_joined a b l).0 q)))

    -- and of one that is not
    pub known_out : {a : ℕ} (b : ℕ) → a < W → has d a ≡ false → has d b ≡ true → false ≡ has (side_of net up W a) b
    known_out {a} b l h q =
        bool_iff false (has (side_of net up W a) b)
        (λ e. absurd (false≢true e))
        (λ e. sym h ∙ (known_joined a).1 (join_trans net up ((known_joined b).0 q) (join_sym net up ((has_joined a b l).0 e))))

-- no ends are apart where all are in one side
pub none_apart : {n : ℕ} {from to : List ℕ} (words : List ℕ) (i : ℕ) {d : ℕ} → Fits n from to → OneSide 64 (net_of n from to) (unset words i) d → EndsIn n from to d → 0 ≡ apart_on n from to words i
none_apart {n} {from} {to} words i {d} f s e = sym (sum_none (λ k. one (apart_at n from to words i k)) n (λ k l. none k l))
  where
    none : (k : ℕ) → k < n → one (apart_at n from to words i k) ≡ 0
    none k l = rw (← (known_in 64 (net_of n from to) (unset words i) (ends f) s (get_or to k 0) (f.from_low k) (e.from_in k l)), e.to_in k l) (both (has (get_or words k 0) i))
      where
        both : (t : Bool) → one (t && false) ≡ 0
        both true = refl
        both false = refl
