-- What the engine relies on besides: every lightpath of a way and of a ring is one that there is, two words tell which spans are carried twice, and what is out
-- is counted by the words of the lightpaths.
use Prim.Native.Nat.{ℕ, zero, suc, ◌+◌, ◌-◌, ◌<◌, min, max}
use mathlib.Core.Path.{◌≡◌, refl, sym, ap, ◌∙◌}
use mathlib.Core.List.{List, [], ◌∷◌}
use mathlib.Core.Bool.{Bool, true, false, cond, ◌||◌, false≢true}
use native.Mathlib.Nat.{min-zero, max-zero}
use native.Mathlib.Decide.{ℕ_discrete}
use native.Mathlib.Omega.{arith}
use lib.ListN.{length}
use lib.Bits.{bit_and}
use Rattle.book.specs.Bits.{bit, has}
use Rattle.book.specs.Book.{RouteBook}
use Rattle.book.proofs.Bits.{has_true, true_has, bit_lt, bit_of_zero, bit-or}
use Rattle.judgement.specs.Network.{Network}
use Rattle.judgement.specs.Judgement.{network}
use Rattle.judgement.specs.Pieces.{over}
use Rattle.judgement.specs.Ways.{Way, here, hop, near, way}
use Rattle.judgement.specs.Contraction.{lost, ring_of, merges}
use Rattle.judgement.specs.Merge.{but, seen_by}
use Rattle.judgement.specs.declared.ring.Carried.{Carried}
use Rattle.judgement.proofs.Sets.{bit-and}
use Rattle.judgement.proofs.FirstWays.{way_is}
use Rattle.judgement.proofs.Merges.{merges_inv}

pub or_none : (a : Bool) → (a || false) ≡ a
or_none true = refl
or_none false = refl

-- all of a list are below n
pub data Under (n : ℕ) : List ℕ → Type 0 where
  nothing : Under n []
  one_more : {k : ℕ} {ks : List ℕ} → k < n → Under n ks → Under n (k ∷ ks)

-- every lightpath of a way is one of the network
under_way : (net : Network) (free : ℕ → Bool) {x y : ℕ} {ks : List ℕ} → Way net free x ks y → Under net.count ks
under_way net free here = nothing
under_way net free (hop l f r w) = one_more l (under_way net free w)

pub way_under : (net : Network) (free : ℕ → Bool) (y n x : ℕ) → bit (near net free y n) x ≡ 1 → Under net.count (way net free y n x)
way_under net free y n x h = under_way net free (way_is net free y n x h).runs

-- `once` has what was counted at least once, and `twice` what was counted at least twice
pub record Seen (c : ℕ → ℕ) (s : Carried) : Type 0 where
  pub once_is : (x : ℕ) → bit s.once x ≡ min 1 (c x)
  pub twice_is : (x : ℕ) → bit s.twice x ≡ min 1 (c x - 1)

one_min : (c : ℕ) → min (min 1 (suc c)) 1 ≡ 1
one_min c = omega arith

one_max : (c : ℕ) → max (min 1 c) 1 ≡ 1
one_max c = omega arith

one_sum : (c : ℕ) → 1 ≡ min 1 (1 + suc c - 1)
one_sum c = omega arith

two_step : (s c : ℕ) → s < 2 → max (min 1 (c - 1)) (min (min 1 c) s) ≡ min 1 (s + c - 1)
two_step zero c l = rw (min-zero (min 1 c), max-zero (min 1 (c - 1))) (omega arith)
two_step (suc zero) zero l = omega arith
two_step (suc zero) (suc c) l = ap (max (min 1 (suc c - 1))) (one_min c) ∙ one_max (suc c - 1) ∙ one_sum c
two_step (suc (suc s)) c l = absurd (omega arith)

pub seen_more : (c : ℕ → ℕ) (s : Carried) (w : ℕ) → Seen c s → Seen (λ x. bit w x + c x) (seen_by s w)
seen_more c s w h = record {
  once_is = λ x. omega (arith, bit-or s.once w x, h.once_is x, bit_lt w x);
  twice_is = λ x. rw (bit-or s.twice (bit_and s.once w) x, bit-and s.once w x, h.once_is x, h.twice_is x) (two_step (bit w x) (c x) (bit_lt w x));
}

pub lost_bit : (S : ℕ → ℕ) (x k : ℕ) (ks : List ℕ) → lost (λ j. has (S j) x) (k ∷ ks) ≡ bit (S k) x + lost (λ j. has (S j) x) ks
unfolding lost
lost_bit S x k ks = go (has (S k) x) refl
  where
    go : (b : Bool) → has (S k) x ≡ b → cond b (suc (lost (λ j. has (S j) x) ks)) (lost (λ j. has (S j) x) ks) ≡ bit (S k) x + lost (λ j. has (S j) x) ks
    go true e = omega (arith, true_has (S k) x e)
    go false e = elim (ℕ_discrete (bit (S k) x) 1) [ yes y ↦ absurd (false≢true (sym e ∙ has_true (S k) x y)) | no z ↦ omega (arith, bit_lt (S k) x) ]

pub seen_none : Seen (λ x. 0) (record { once = 0; twice = 0 })
seen_none = record { once_is = λ x. bit_of_zero x; twice_is = λ x. bit_of_zero x }

-- lightpaths that are out alike; none that is out
pub lost_alike : (out out' : ℕ → Bool) (n : ℕ) {ks : List ℕ} → Under n ks → ((k : ℕ) → k < n → out k ≡ out' k) → lost out ks ≡ lost out' ks
unfolding lost
lost_alike out out' n nothing h = refl
lost_alike out out' n (one_more {k} {ks} l u) h = rw (h k l, lost_alike out out' n u h)

pub lost_none : (out : ℕ → Bool) (n : ℕ) {ks : List ℕ} → Under n ks → ((k : ℕ) → k < n → out k ≡ false) → lost out ks ≡ 0
unfolding lost
lost_none out n nothing h = refl
lost_none out n (one_more {k} {ks} l u) h = rw (h k l) (lost_none out n u h)

-- and every lightpath of a ring that is merged is one of the book
pub under : (m : RouteBook) (piece : ℕ → ℕ) (k : ℕ) → k < length m.lightpaths → merges m piece k ≡ true → Under (length m.lightpaths) (ring_of m piece k)
under m piece k l ring =
    one_more l (way_under (over (network m) piece) (but k) (piece ((network m).to k)) 64 (piece ((network m).from k)) (true_has _ _ (merges_inv m piece k ring).rounds))
