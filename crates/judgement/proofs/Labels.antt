-- The set of the labels of the numbers that pass a test: it holds a label exactly if such a number has it.
-- Each number below the width is looked at once, and its label is put in.
use Prim.Native.Nat.{ℕ, zero, suc, ◌<◌, ◌^◌}
use mathlib.Core.Path.{◌≡◌, refl, sym, ap, ◌∙◌}
use mathlib.Core.Logic.{⊎_elim}
use mathlib.Core.Bool.{Bool, true, false, cond}
use native.Mathlib.Omega.{arith}
use native.Mathlib.Decide.{ℕ_discrete}
use lib.Pow.{pow_pos}
use Rattle.book.specs.Bits.{bit, put}
use Rattle.book.proofs.Bits.{bit_of_zero, put_same, put_keeps, put_inv, put_lt}
use Rattle.judgement.specs.Pieces.{labels}

module _ (t : ℕ → Bool) (piece : ℕ → ℕ) where
  labels_kept : (n q : ℕ) → bit (labels t piece n) q ≡ 1 → bit (labels t piece (suc n)) q ≡ 1
  unfolding labels
  labels_kept n q h = go (t n)
    where
      go : (b : Bool) → bit (cond b (put (labels t piece n) (piece n)) (labels t piece n)) q ≡ 1
      go true = put_keeps _ (piece n) q h
      go false = h

  labels_new : (n : ℕ) → t n ≡ true → bit (labels t piece (suc n)) (piece n) ≡ 1
  unfolding labels
  labels_new n e = rw e (put_same (labels t piece n) (piece n))

  pub labels_in : (n i : ℕ) → i < n → t i ≡ true → bit (labels t piece n) (piece i) ≡ 1
  labels_in zero i l e = absurd (omega arith)
  labels_in (suc n) i l e = go (λ q. labels_in n i q e) (ℕ_discrete i n)
    where
      go : (i < n → bit (labels t piece n) (piece i) ≡ 1) → Dec (i ≡ n) → bit (labels t piece (suc n)) (piece i) ≡ 1
      go ih (yes y) = ap (λ (j : ℕ). bit (labels t piece (suc n)) (piece j)) y ∙ labels_new n (ap t (sym y) ∙ e)
      go ih (no z) = labels_kept n (piece i) (ih (omega arith))

  pub labels_of : (n q : ℕ) → bit (labels t piece n) q ≡ 1 → (i : ℕ) × (i < n) × (t i ≡ true) × (piece i ≡ q)
  unfolding labels
  labels_of zero q h = absurd (omega (arith, bit_of_zero q))
  labels_of (suc n) q h = go (labels_of n q) (t n) refl h
    where
      Of : ℕ → Type 0
      Of m = (i : ℕ) × (i < m) × (t i ≡ true) × (piece i ≡ q)

      go : (bit (labels t piece n) q ≡ 1 → Of n) → (b : Bool) → t n ≡ b → bit (cond b (put (labels t piece n) (piece n)) (labels t piece n)) q ≡ 1 → Of (suc n)
      go ih true e g =
          ⊎_elim (λ old. let w = ih old in (w.0, omega (arith, w.1), w.2, w.3)) (λ same. (n, omega arith, e, sym same)) (put_inv _ (piece n) q g)
      go ih false e g = let w = ih g in (w.0, omega (arith, w.1), w.2, w.3)

  pub labels_lt : (W n : ℕ) → ((i : ℕ) → i < n → piece i < W) → labels t piece n < 2 ^ W
  unfolding labels
  labels_lt W zero h = pow_pos W
  labels_lt W (suc n) h = go (labels_lt W n (λ i l. h i (omega arith))) (t n)
    where
      go : labels t piece n < 2 ^ W → (b : Bool) → cond b (put (labels t piece n) (piece n)) (labels t piece n) < 2 ^ W
      go ih true = put_lt W _ (piece n) ih (h n (omega arith))
      go ih false = ih
