-- Sets of numbers below a width, as numbers: the lowest member, and how many there are, so that a set within another that has as many is the other.
-- All of it is over the width, so that a side of one word and one of several rest on the same laws.
use Prim.Native.Nat.{ℕ, zero, suc, ◌+◌, ◌*◌, ◌/◌, ◌%◌, ◌^◌, ◌<◌, ◌≤◌, min, zero-le}
use mathlib.Core.Path.{◌≡◌, refl, sym, ap, ap₂, ◌∙◌, subst}
use mathlib.Core.Logic.{◌↔◌}
use mathlib.Core.Bool.{false, ◌||◌, false≢true}
use native.Mathlib.Nat.{le_refl, div-lt_iff_lt-mul}
use native.Mathlib.Decide.{dec_lt, ℕ_discrete}
use native.Mathlib.Omega.{arith}
use lib.Arith.{lt-one, digits_mod}
use lib.Pow.{pow_pos, shr_lt}
use lib.Dec.{eqb, ltb}
use lib.Bits.{bit_and, bit_or, bit_xor, differ, and_shr, and_step, and_le_l, and_le_r, or_add_and, xor_shr, xor_step}
use lib.Count.{count_trailing_zeros, under, ones, ones_step}
use borrow.Author.Tests.{eq-eqb, ne_eqb, lt-ltb, le-ltb}
use Rattle.book.specs.Bits.{bit, has, put}
use Rattle.book.proofs.Bits.{bit_lt, bit_zero, bit_suc, bit_of_zero, bit-or, bit_iff, bit_ext, has_true, has_false, put_same, put_other}
use Rattle.judgement.specs.Inside.{size}

-- two sets below the width with the same members are equal
pub set_same : (W a b : ℕ) → a < 2 ^ W → b < 2 ^ W → ((i : ℕ) → i < W → (bit a i ≡ 1) ↔ (bit b i ≡ 1)) → a ≡ b
set_same W a b p q h = bit_ext W a b p q (λ i l. bit_iff a b i (h i l).0 (h i l).1)

-- what two sets both hold
pub bit-and : (a b i : ℕ) → bit (bit_and a b) i ≡ min (bit a i) (bit b i)
unfolding bit
bit-and a b i = rw (and_shr, and_step) (digits_mod _ (omega arith))

-- the lowest number in a set
pub low_in : (k x : ℕ) → count_trailing_zeros k x < k → bit x (count_trailing_zeros k x) ≡ 1
unfolding count_trailing_zeros
low_in zero x h = absurd (omega arith)
low_in (suc k) x h = go (λ l. low_in k (x / 2) l) (x % 2) refl h
  where
    go : (count_trailing_zeros k (x / 2) < k → bit (x / 2) (count_trailing_zeros k (x / 2)) ≡ 1) → (d : ℕ) → x % 2 ≡ d
        → under d (count_trailing_zeros k (x / 2)) < suc k → bit x (under d (count_trailing_zeros k (x / 2))) ≡ 1
    go ih zero e l = bit_suc x (count_trailing_zeros k (x / 2)) ∙ ih (omega arith)
    go ih (suc d) e l = bit_zero x ∙ omega arith

pub low_below : (k x i : ℕ) → i < count_trailing_zeros k x → bit x i ≡ 0
unfolding count_trailing_zeros
low_below zero x i h = absurd (omega arith)
low_below (suc k) x i h = go (λ j l. low_below k (x / 2) j l) (x % 2) refl i h
  where
    go : ((j : ℕ) → j < count_trailing_zeros k (x / 2) → bit (x / 2) j ≡ 0) → (d : ℕ) → x % 2 ≡ d
        → (j : ℕ) → j < under d (count_trailing_zeros k (x / 2)) → bit x j ≡ 0
    go ih zero e zero l = bit_zero x ∙ e
    go ih zero e (suc j) l = bit_suc x j ∙ ih j (omega arith)
    go ih (suc d) e zero l = absurd (omega arith)
    go ih (suc d) e (suc j) l = absurd (omega arith)

-- a set that holds some number below the width has its lowest below the width
pub low_lt : (k x i : ℕ) → i < k → bit x i ≡ 1 → count_trailing_zeros k x < k
low_lt k x i l e = go (dec_lt (count_trailing_zeros k x) k)
  where
    go : Dec (count_trailing_zeros k x < k) → count_trailing_zeros k x < k
    go (yes y) = y
    go (no n) = absurd (omega (arith, low_below k x i (omega arith)))

-- and so has a set that is not empty
pub low_some : (W x : ℕ) → x < 2 ^ W → (x ≡ 0 → ⊥) → count_trailing_zeros W x < W
low_some W x l n = elim (dec_lt (count_trailing_zeros W x) W) [
  | yes y ↦ y
  | no k ↦ absurd (n (bit_ext W x 0 l (pow_pos W) (λ i q. low_below W x i (omega (arith, q, k)) ∙ sym (bit_of_zero i))))
]

-- what a set has beyond a part of it, by the machine's xor: there is something unless they are one, and the lowest of it is in the set and not in the part
bit-xor : (a b i : ℕ) → bit (bit_xor a b) i ≡ differ (bit a i) (bit b i)
unfolding bit
bit-xor a b i = rw (xor_shr, xor_step) (digits_mod _ (differ_lt (a / 2 ^ i % 2) (b / 2 ^ i % 2) (omega arith) (omega arith)))
  where
    differ_lt : (x y : ℕ) → x < 2 → y < 2 → differ x y < 2
    differ_lt zero y p q = q
    differ_lt (suc x) zero p q = p
    differ_lt (suc x) (suc y) p q = differ_lt x y (omega arith) (omega arith)

differ_none : (x y : ℕ) → x < 2 → y < 2 → differ x y ≡ 0 → x ≡ y
differ_none zero y p q e = sym e
differ_none (suc x) zero p q e = e
differ_none (suc x) (suc y) p q e = ap suc (differ_none x y (omega arith) (omega arith) e)

differ_one : (x y : ℕ) → x < 2 → y < 2 → (y ≡ 1 → x ≡ 1) → differ x y ≡ 1 → (x ≡ 1) × (y ≡ 0)
differ_one zero y p q f e = absurd (omega (arith, f e))
differ_one (suc x) zero p q f e = (e, refl)
differ_one (suc x) (suc y) p q f e = absurd (omega (arith, sym (ap₂ differ (lt-one {n = x} (omega arith)) (lt-one {n = y} (omega arith))) ∙ e))

module _ (W a b : ℕ) (p : a < 2 ^ W) (q : b < 2 ^ W) (within : (i : ℕ) → bit b i ≡ 1 → bit a i ≡ 1) (other : a ≡ b → ⊥) where
  pub beyond_lt : count_trailing_zeros W (bit_xor a b) < W
  beyond_lt = go (dec_lt (count_trailing_zeros W (bit_xor a b)) W)
    where
      go : Dec (count_trailing_zeros W (bit_xor a b) < W) → count_trailing_zeros W (bit_xor a b) < W
      go (yes y) = y
      go (no n) =
          absurd (other (bit_ext W a b p q (λ i l.
          differ_none (bit a i) (bit b i) (bit_lt a i) (bit_lt b i) (sym (bit-xor a b i) ∙ low_below W (bit_xor a b) i (omega arith)))))

  pub beyond_in : (bit a (count_trailing_zeros W (bit_xor a b)) ≡ 1) × (bit b (count_trailing_zeros W (bit_xor a b)) ≡ 0)
  beyond_in =
      let i = count_trailing_zeros W (bit_xor a b) in
      differ_one (bit a i) (bit b i) (bit_lt a i) (bit_lt b i) (within i) (sym (bit-xor a b i) ∙ low_in W (bit_xor a b) beyond_lt)

-- how many are in a set: the machine's count is the number of members below the width
size_suc : (k x : ℕ) → size (suc k) x ≡ x % 2 + size k (x / 2)
unfolding size
size_suc zero x = omega (arith, bit_zero x)
size_suc (suc k) x = omega (arith, size_suc k x, bit_suc x k)

pub ones_size : (k x : ℕ) → x < 2 ^ k → ones x ≡ size k x
unfolding size ones
ones_size zero x h = ap ones (lt-one h)
ones_size (suc k) x h = ones_step x ∙ ap (λ (n : ℕ). x % 2 + n) (ones_size k (x / 2) (omega arith)) ∙ sym (size_suc k x)

-- one more that was not in it
pub size_few : (k x : ℕ) → size k x ≤ k
unfolding size
size_few zero x = zero-le
size_few (suc k) x = omega (arith, size_few k x, bit_lt x k)

size_past : (k x i : ℕ) → k ≤ i → size k (put x i) ≡ size k x
unfolding size
size_past zero x i l = refl
size_past (suc k) x i l = omega (arith, size_past k x i (omega arith), put_other x i k (λ e. omega arith))

pub size_put : (k x i : ℕ) → i < k → bit x i ≡ 0 → size k (put x i) ≡ size k x + 1
unfolding size
size_put zero x i l e = absurd (omega arith)
size_put (suc k) x i l e = go (λ l'. size_put k x i l' e) (ℕ_discrete k i)
  where
    go : (i < k → size k (put x i) ≡ size k x + 1) → Dec (k ≡ i) → size k (put x i) + bit (put x i) k ≡ size k x + bit x k + 1
    go ih (yes q) = rw q (omega (arith, size_past i x i (le_refl i), put_same x i, e))
    go ih (no n) = omega (arith, ih (omega arith), put_other x i k n)

-- a set within another has no more members, and is the other where it has as many
module _ (a b : ℕ) (within : (i : ℕ) → bit a i ≡ 1 → bit b i ≡ 1) where
  bit_le : (i : ℕ) → bit a i ≤ bit b i
  bit_le i = elim (ℕ_discrete (bit a i) 1) [ yes e ↦ omega (arith, e, within i e) | no n ↦ omega (arith, bit_lt a i) ]

  pub size_le : (k : ℕ) → size k a ≤ size k b
  unfolding size
  size_le zero = zero-le
  size_le (suc k) = omega (arith, size_le k, bit_le k)

  size_bits : (k : ℕ) → size k a ≡ size k b → (i : ℕ) → i < k → bit a i ≡ bit b i
  unfolding size
  size_bits zero e i l = absurd (omega arith)
  size_bits (suc k) e i l =
      let rest : size k a ≡ size k b = omega (arith, e, size_le k, bit_le k) in
      elim (ℕ_discrete i k) [ yes q ↦ ap (bit a) q ∙ omega (arith, e, rest) ∙ ap (bit b) (sym q) | no q ↦ size_bits k rest i (omega arith) ]

  pub size_same : (W : ℕ) → a < 2 ^ W → b < 2 ^ W → size W a ≡ size W b → a ≡ b
  size_same W p q e = bit_ext W a b p q (size_bits W e)

  -- and fewer where it lacks one of the other's
  pub size_less : (k i : ℕ) → i < k → bit a i ≡ 0 → bit b i ≡ 1 → size k a < size k b
  size_less k i l p q = elim (dec_lt (size k a) (size k b)) [ yes y ↦ y | no n ↦ absurd (omega (arith, p, q, size_bits k (omega (arith, size_le k)) i l)) ]

-- a set has one member at least where it holds a number
pub size_some : (k x i : ℕ) → i < k → bit x i ≡ 1 → 0 < size k x
size_some k x i l e = omega (arith, size_less 0 x (λ j h. absurd (omega (arith, h, bit_of_zero j))) k i l (bit_of_zero i) e)

-- what a test tells of a bit, and what is in either of two sets
pub lacks_bit : (x i : ℕ) → has x i ≡ false → bit x i ≡ 0
lacks_bit x i h = elim (ℕ_discrete (bit x i) 1) [ yes e ↦ absurd (false≢true (sym h ∙ has_true x i e)) | no n ↦ omega (arith, bit_lt x i, n) ]

pub has_or : (a b i : ℕ) → has (bit_or a b) i ≡ (has a i || has b i)
has_or a b i = go (ℕ_discrete (bit a i) 1) (ℕ_discrete (bit b i) 1)
  where
    go : Dec (bit a i ≡ 1) → Dec (bit b i ≡ 1) → has (bit_or a b) i ≡ (has a i || has b i)
    go (yes p) _ = has_true (bit_or a b) i (bit-or a b i ∙ omega (arith, p, bit_lt b i)) ∙ rw (has_true a i p)
    go (no p) (yes q) = has_true (bit_or a b) i (bit-or a b i ∙ omega (arith, q, bit_lt a i)) ∙ rw (has_false a i (omega (arith, p, bit_lt a i)), has_true b i q)
    go (no p) (no q) =
        let x : bit a i ≡ 0 = omega (arith, p, bit_lt a i) in
        let y : bit b i ≡ 0 = omega (arith, q, bit_lt b i) in
        has_false (bit_or a b) i (bit-or a b i ∙ omega (arith, x, y)) ∙ rw (has_false a i x, has_false b i y)

-- a set with a number put in, and without one that it has, by the machine's xor
pub has_put : (x j i : ℕ) → has (put x j) i ≡ (eqb i j || has x i)
has_put x j i = go (ℕ_discrete i j) (ℕ_discrete (bit x i) 1)
  where
    go : Dec (i ≡ j) → Dec (bit x i ≡ 1) → has (put x j) i ≡ (eqb i j || has x i)
    go (yes e) _ = has_true (put x j) i (ap (bit (put x j)) e ∙ put_same x j) ∙ rw (eq-eqb i j e)
    go (no n) (yes h) = has_true (put x j) i (put_other x j i n ∙ h) ∙ rw (ne_eqb i j n, has_true x i h)
    go (no n) (no h) =
        let z : bit x i ≡ 0 = omega (arith, h, bit_lt x i) in
        has_false (put x j) i (put_other x j i n ∙ z) ∙ rw (ne_eqb i j n, has_false x i z)

pub taken_out : (x j i : ℕ) → bit x j ≡ 1 → (bit (bit_xor x (put 0 j)) i ≡ 1) ↔ ((bit x i ≡ 1) × (i ≡ j → ⊥))
taken_out x j i e = go (ℕ_discrete i j)
  where
    alone : (d : ℕ) → differ d 0 ≡ d
    alone zero = refl
    alone (suc d) = refl

    go : Dec (i ≡ j) → (bit (bit_xor x (put 0 j)) i ≡ 1) ↔ ((bit x i ≡ 1) × (i ≡ j → ⊥))
    go (yes q) =
        let z : bit (bit_xor x (put 0 j)) i ≡ 0 = ap (bit (bit_xor x (put 0 j))) q ∙ bit-xor x (put 0 j) j ∙ ap₂ differ e (put_same 0 j) in
        ((λ h. absurd (omega (arith, h, z))), (λ p. absurd (p.1 q)))
    go (no n) =
        let z : bit (bit_xor x (put 0 j)) i ≡ bit x i = bit-xor x (put 0 j) i ∙ ap (differ (bit x i)) (put_other 0 j i n ∙ bit_of_zero i) ∙ alone (bit x i) in
        ((λ h. (sym z ∙ h, n)), (λ p. z ∙ p.0))

-- what is in both of two sets: their and is 0 exactly if they share no number, and an or is 0 exactly if both sets are
pub none_shared : (a b : ℕ) → bit_and a b ≡ 0 → (i : ℕ) → bit a i ≡ 1 → bit b i ≡ 0
none_shared a b e i h = omega (arith, bit-and a b i, ap (λ (x : ℕ). bit x i) e, bit_of_zero i, h, bit_lt b i)

pub shared_none : (W a b : ℕ) → b < 2 ^ W → ((i : ℕ) → i < W → bit a i ≡ 1 → bit b i ≡ 0) → bit_and a b ≡ 0
shared_none W a b q f =
    bit_ext W (bit_and a b) 0 (omega (arith, and_le_r a b)) (pow_pos W)
    (λ i l. bit-and a b i ∙ go i l (ℕ_discrete (bit a i) 1) ∙ sym (bit_of_zero i))
  where
    go : (i : ℕ) → i < W → Dec (bit a i ≡ 1) → min (bit a i) (bit b i) ≡ 0
    go i l (yes h) = omega (arith, f i l h, h)
    go i l (no n) = omega (arith, n, bit_lt a i)

pub neither : (a b : ℕ) → bit_or a b ≡ 0 → (a ≡ 0) × (b ≡ 0)
neither a b e = (omega (arith, or_add_and a b, and_le_r a b), omega (arith, or_add_and a b, and_le_l a b))

pub or_none : (a b : ℕ) → a ≡ 0 → b ≡ 0 → bit_or a b ≡ 0
or_none a b p q = omega (arith, or_add_and a b)

-- a set has no number from n on exactly if it is below 2 to the power n, which the machine tells by a shift
none_left : (w n : ℕ) → w < 2 ^ n → w / 2 ^ n ≡ 0
none_left w n l = lt-one ((div-lt_iff_lt-mul (pow_pos n)).1 (omega (arith, l)))

left_none : (w n : ℕ) → w / 2 ^ n ≡ 0 → w < 2 ^ n
left_none w n e = let z : w < 1 * 2 ^ n = (div-lt_iff_lt-mul (pow_pos n)).0 (omega (arith, e)) in omega (arith, z)

pub shift_none : (w n : ℕ) → eqb (w / 2 ^ n) 0 ≡ ltb w (2 ^ n)
shift_none w n = go (dec_lt w (2 ^ n))
  where
    go : Dec (w < 2 ^ n) → eqb (w / 2 ^ n) 0 ≡ ltb w (2 ^ n)
    go (yes l) = eq-eqb (w / 2 ^ n) 0 (none_left w n l) ∙ sym (lt-ltb w (2 ^ n) l)
    go (no k) = ne_eqb (w / 2 ^ n) 0 (λ e. k (left_none w n e)) ∙ sym (le-ltb w (2 ^ n) (omega (arith, k)))

pub bit_le_set : (w i : ℕ) → bit w i ≡ 1 → 2 ^ i ≤ w
unfolding bit
bit_le_set w i e = elim (dec_lt w (2 ^ i)) [ yes l ↦ absurd (omega (arith, e, none_left w i l)) | no n ↦ omega (arith, n) ]

pub bits_below : (n d w : ℕ) → w < 2 ^ (n + d) → ((i : ℕ) → n ≤ i → i < n + d → bit w i ≡ 0) → w < 2 ^ n
unfolding bit
bits_below n zero w l f = let z : n + 0 ≡ n = omega arith in subst (λ (k : ℕ). w < 2 ^ k) z l
bits_below n (suc d) w l f =
    let z : n + suc d ≡ 1 + (n + d) = omega arith in
    let two : w / 2 ^ (n + d) < 2 = shr_lt 1 (n + d) (subst (λ (k : ℕ). w < 2 ^ k) z l) in
    bits_below n d w (left_none w (n + d) (omega (arith, two, f (n + d) (omega arith) (omega arith)))) (λ i a b. f i a (omega (arith, b)))
