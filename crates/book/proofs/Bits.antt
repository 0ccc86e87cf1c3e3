-- Sets as numbers: which sets are equal, what is in one after one more is put in, over any width, and the machine's shift, mask and or say the same.
-- A set is its bits, and the bits of an or are the greater of the two, so every law goes bit by bit.
use Prim.Native.Nat.{ℕ, zero, suc, ◌*◌, ◌/◌, ◌%◌, ◌^◌, ◌<◌, ◌≤◌, max, zero-le, suc-le-suc}
use mathlib.Core.Path.{◌≡◌, refl, sym, ap, ◌∙◌}
use mathlib.Core.Logic.{◌⊎◌, inl, inr}
use mathlib.Core.Bool.{true, false}
use native.Mathlib.Decide.{ℕ_discrete}
use native.Mathlib.Nat.{div-one, zero-div}
use native.Mathlib.Omega.{arith}
use native.Mathlib.Numerals.{one-add}
use lib.Dec.{eqb, lit<}
use lib.Arith.{digits_mod}
use lib.Pow.{shr-shr, shl_exact, pow-lt}
use lib.Bits.{bit_and, bit_or, or_shr, or_step, or_lt, or_add_and, or_zero_l, and_mask, and_le_r}
use borrow.Author.Tests.{eqb-true, eq-eqb, ne_eqb}
use Rattle.book.specs.Bits.{bit, has, put}

pub bit_lt : (x i : ℕ) → bit x i < 2
unfolding bit
bit_lt x i = omega arith

-- the lowest bit, and the bits above it
pub bit_zero : (x : ℕ) → bit x 0 ≡ x % 2
unfolding bit
bit_zero x = rw div-one

pub bit_suc : (x i : ℕ) → bit x (suc i) ≡ bit (x / 2) i
unfolding bit
bit_suc x i = ap (λ (n : ℕ). x / 2 ^ n % 2) (sym (one-add i)) ∙ ap (λ (n : ℕ). n % 2) (sym (shr-shr x 1 i))

pub bit_of_zero : (i : ℕ) → bit 0 i ≡ 0
unfolding bit
bit_of_zero i = rw zero-div

pub bit-or : (a b i : ℕ) → bit (bit_or a b) i ≡ max (bit a i) (bit b i)
unfolding bit
bit-or a b i = rw (or_shr, or_step) (digits_mod _ (omega arith))

-- two bits of which each is set where the other is
pub bit_iff : (x y i : ℕ) → (bit x i ≡ 1 → bit y i ≡ 1) → (bit y i ≡ 1 → bit x i ≡ 1) → bit x i ≡ bit y i
bit_iff x y i f g = go (ℕ_discrete (bit x i) 1) (ℕ_discrete (bit y i) 1)
  where
    go : Dec (bit x i ≡ 1) → Dec (bit y i ≡ 1) → bit x i ≡ bit y i
    go (yes p) _ = p ∙ sym (f p)
    go (no p) (yes q) = absurd (p (g q))
    go (no p) (no q) = omega (arith, bit_lt x i, bit_lt y i)

-- two sets with the same numbers below the width are equal
pub bit_ext : (k a b : ℕ) → a < 2 ^ k → b < 2 ^ k → ((i : ℕ) → i < k → bit a i ≡ bit b i) → a ≡ b
bit_ext zero a b ha hb h = omega arith
bit_ext (suc k) a b ha hb h =
    let low : a % 2 ≡ b % 2 = sym (bit_zero a) ∙ h 0 (suc-le-suc zero-le) ∙ bit_zero b in
    let high : a / 2 ≡ b / 2 =
    bit_ext k (a / 2) (b / 2) (omega arith) (omega arith)
    (λ i l. sym (bit_suc a i) ∙ h (suc i) (suc-le-suc l) ∙ bit_suc b i)
    in
    omega arith

-- membership as a test
pub has_true : (x i : ℕ) → bit x i ≡ 1 → has x i ≡ true
unfolding has
has_true x i e = eq-eqb (bit x i) 1 e

pub has_false : (x i : ℕ) → bit x i ≡ 0 → has x i ≡ false
unfolding has
has_false x i e = ne_eqb (bit x i) 1 (λ h. omega (arith, e, h))

pub true_has : (x i : ℕ) → has x i ≡ true → bit x i ≡ 1
unfolding has
true_has x i e = eqb-true (bit x i) 1 e

-- the set of one number
pub bit_one : (j : ℕ) → bit (2 ^ j) j ≡ 1
bit_one zero = bit_zero 1
bit_one (suc j) = bit_suc (2 ^ suc j) j ∙ ap (λ (n : ℕ). bit n j) (omega arith) ∙ bit_one j

pub bit_other : (j i : ℕ) → (i ≡ j → ⊥) → bit (2 ^ j) i ≡ 0
bit_other zero zero h = absurd (h refl)
bit_other zero (suc i) h = bit_suc 1 i ∙ bit_of_zero i
bit_other (suc j) zero h = bit_zero (2 ^ suc j) ∙ omega arith
bit_other (suc j) (suc i) h = bit_suc (2 ^ suc j) i ∙ ap (λ (n : ℕ). bit n i) (omega arith) ∙ bit_other j i (λ e. h (ap suc e))

-- what is in a set with one number more
pub put_same : (x i : ℕ) → bit (put x i) i ≡ 1
unfolding put
put_same x i = bit-or x (2 ^ i) i ∙ omega (arith, bit_one i, bit_lt x i)

pub put_other : (x i j : ℕ) → (j ≡ i → ⊥) → bit (put x i) j ≡ bit x j
unfolding put
put_other x i j h = bit-or x (2 ^ i) j ∙ omega (arith, bit_other i j h)

pub put_keeps : (x i j : ℕ) → bit x j ≡ 1 → bit (put x i) j ≡ 1
unfolding put
put_keeps x i j e = bit-or x (2 ^ i) j ∙ omega (arith, bit_lt (2 ^ i) j)

pub put_inv : (x i j : ℕ) → bit (put x i) j ≡ 1 → (bit x j ≡ 1) ⊎ (j ≡ i)
put_inv x i j e = go (ℕ_discrete j i)
  where
    go : Dec (j ≡ i) → (bit x j ≡ 1) ⊎ (j ≡ i)
    go (yes y) = inr y
    go (no n) = inl (sym (put_other x i j n) ∙ e)

-- the same set as a number: within the width, no less than before, and a power of two where it was empty
pub put_lt : (k x i : ℕ) → x < 2 ^ k → i < k → put x i < 2 ^ k
unfolding put
put_lt k x i h l = or_lt k x (2 ^ i) h (pow-lt l)

pub put_le : (x i : ℕ) → x ≤ put x i
unfolding put
put_le x i = omega (arith, or_add_and x (2 ^ i), and_le_r x (2 ^ i))

pub put_zero : (i : ℕ) → put 0 i ≡ 2 ^ i
unfolding put
put_zero i = or_zero_l (2 ^ i)

-- the machine's forms: a shift and a mask of one, and a one shifted, at a width W
pub machine_has : (x i : ℕ) → eqb (bit_and (x / 2 ^ i) 1) 1 ≡ has x i
unfolding has bit
machine_has x i = ap (λ (n : ℕ). eqb n 1) (and_mask (x / 2 ^ i) 1)

pub machine_put : (W x i : ℕ) → i < W → bit_or x ((1 * 2 ^ i) % 2 ^ W) ≡ put x i
unfolding put
machine_put W x i l = ap (bit_or x) (shl_exact 1 i W (lit< tt) (omega arith) ∙ omega arith)
