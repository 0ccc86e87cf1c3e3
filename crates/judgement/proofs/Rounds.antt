-- THE ROUNDS that look for a way are enough, and may stop early: each round adds a node or no later one does, so that as many rounds as there are nodes find
-- every way that there is. Where a round adds nothing the search is over, and once x is found the way from it is the same whatever rounds follow.
use Prim.Native.Nat.{ℕ, zero, suc, ◌<◌, ◌≤◌, ◌^◌}
use mathlib.Core.Path.{◌≡◌, refl, sym, ap, ◌∙◌, subst}
use mathlib.Core.List.{List}
use mathlib.Core.Logic.{◌⊎◌, inl, inr}
use mathlib.Core.Bool.{Bool, true, false, cond, ◌&&◌, ◌||◌}
use native.Mathlib.Omega.{arith}
use native.Mathlib.Nat.{le_refl}
use native.Mathlib.Decide.{ℕ_discrete, dec_lt}
use lib.Pow.{pow-lt}
use Rattle.book.specs.Bits.{bit, has, put}
use Rattle.book.proofs.Bits.{has_true, put_lt}
use Rattle.judgement.specs.Network.{Network}
use Rattle.judgement.specs.Inside.{size}
use Rattle.judgement.specs.Ways.{Before, Way, here, hop, widen, near, way}
use Rattle.judgement.proofs.Sets.{size_le, size_same, size_few, size_some}
use Rattle.judgement.proofs.FirstWays.{near_kept, near_start, near_step, way_stay, way_is, way_before}

-- what holds of round d and is handed on holds of every later round
later : (P : ℕ → Type 0) (d : ℕ) → P d → ((n : ℕ) → d ≤ n → P n → P (suc n)) → (n : ℕ) → d ≤ n → P n
later P d h f zero l = subst P (omega arith) h
later P d h f (suc n) l = turn (λ q. later P d h f n q) (ℕ_discrete d (suc n))
  where
    turn : (d ≤ n → P n) → Dec (d ≡ suc n) → P (suc n)
    turn ih (yes e) = subst P e h
    turn ih (no z) = let q : d ≤ n = omega arith in f n q (ih q)

module _ (net : Network) (free : ℕ → Bool) (y : ℕ) where
  -- THE LAW of a round that finds x: more rounds find it too, and the way is the same
  abbrev Met : ℕ → ℕ → ℕ → Type 0
  Met d x n = (bit (near net free y n) x ≡ 1) × (way net free y n x ≡ way net free y d x)

  pub met : (d x : ℕ) → bit (near net free y d) x ≡ 1 → (n : ℕ) → d ≤ n → (bit (near net free y n) x ≡ 1) × (way net free y n x ≡ way net free y d x)
  met d x h = later (Met d x) d (h, refl) (λ n l r. (near_kept net free y n x r.0, way_stay net free y n x (has_true (near net free y n) x r.0) ∙ r.1))

  -- THE LAW of a round that adds nothing: nor does a later one
  pub ended : (d : ℕ) → near net free y (suc d) ≡ near net free y d → (n : ℕ) → d ≤ n → near net free y n ≡ near net free y d
  unfolding near
  ended d e = later (λ n. near net free y n ≡ near net free y d) d refl (λ n l r. again n r)
    where
      again : (n : ℕ) → near net free y n ≡ near net free y d → near net free y (suc n) ≡ near net free y d
      again n r = ap (λ (o : ℕ). widen net free o net.count) r ∙ e

  -- and what has a way has been found by then
  stuck : (n : ℕ) → near net free y (suc n) ≡ near net free y n → {x : ℕ} {ks : List ℕ} → Way net free x ks y → bit (near net free y n) x ≡ 1
  stuck n e here = near_start net free y n
  stuck n e (hop {x = x} {z = z} {k = k} l f r w) = subst (λ (s : ℕ). bit s x ≡ 1) e (near_step net free y n x z k l f r (stuck n e w))

  -- nodes below a width
  module _ (W : ℕ) (y-low : y < W) (ends : (k : ℕ) → k < net.count → (net.from k < W) × (net.to k < W)) where
    widen_lt : (old n : ℕ) → n ≤ net.count → old < 2 ^ W → widen net free old n < 2 ^ W
    unfolding widen
    widen_lt old zero l h = h
    widen_lt old (suc n) l h = turn (widen_lt old n (omega arith) h) (free n && (has old (net.from n) || has old (net.to n)))
      where
        turn : widen net free old n < 2 ^ W → (b : Bool) → cond b (put (put (widen net free old n) (net.from n)) (net.to n)) (widen net free old n) < 2 ^ W
        turn g true = put_lt W _ _ (put_lt W _ _ g (ends n l).0) (ends n l).1
        turn g false = g

    near_lt : (n : ℕ) → near net free y n < 2 ^ W
    unfolding near
    near_lt zero = pow-lt y-low
    near_lt (suc n) = widen_lt (near net free y n) net.count (le_refl _) (near_lt n)

    abbrev many : ℕ → ℕ
    many n = size W (near net free y n)

    -- a round that does not add a node adds nothing
    same_near : (n : ℕ) → (many n < many (suc n) → ⊥) → near net free y (suc n) ≡ near net free y n
    same_near n h =
        sym (size_same (near net free y n) (near net free y (suc n)) (near_kept net free y n) W (near_lt n) (near_lt (suc n))
        (omega (arith, h, size_le (near net free y n) (near net free y (suc n)) (near_kept net free y n) W)))

    -- some round up to n adds nothing
    abbrev Stops : ℕ → Type 0
    Stops n = (d : ℕ) × (d ≤ n) × (near net free y (suc d) ≡ near net free y d)

    grows : (n : ℕ) → (n < many n) ⊎ Stops n
    grows zero = inl (size_some W (near net free y 0) y y-low (near_start net free y 0))
    grows (suc n) = turn (grows n) (dec_lt (many n) (many (suc n)))
      where
        turn : (n < many n) ⊎ Stops n → Dec (many n < many (suc n)) → (suc n < many (suc n)) ⊎ Stops (suc n)
        turn (inr w) d = inr (w.0, omega (arith, w.1), w.2)
        turn (inl l) (yes q) = inl (omega arith)
        turn (inl l) (no q) = inr (n, omega arith, same_near n q)

    -- THE LAW: W rounds are enough
    pub near_all : {x : ℕ} {ks : List ℕ} → Way net free x ks y → bit (near net free y W) x ≡ 1
    near_all {x} w = turn (grows W)
      where
        turn : (W < many W) ⊎ Stops W → bit (near net free y W) x ≡ 1
        turn (inl l) = absurd (omega (arith, size_few W (near net free y W)))
        turn (inr v) = (met v.0 x (stuck v.0 v.2 w) W v.1).0

    -- THE LAW of the way: where there is one at all, the way that W rounds find is one, and comes before every other
    pub way_first : {x : ℕ} {ks : List ℕ} → Way net free x ks y
        → Way net free x (way net free y W x) y × ((js : List ℕ) → Way net free x js y → Before (way net free y W x) js)
    way_first {x} w = let h = near_all w in ((way_is net free y W x h).runs, way_before net free y W x h)
