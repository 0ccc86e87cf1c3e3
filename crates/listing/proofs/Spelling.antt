-- Digits from the first to the last: what is written so far are the digits of the number divided by a power of the base. A decimal number has one digit more
-- than the greatest power of ten that it reaches has noughts.
use Prim.Native.Nat.{ℕ, zero, suc, ◌+◌, ◌-◌, ◌*◌, ◌/◌, ◌%◌, ◌^◌, ◌≤◌, ◌<◌, max, zero-le}
use mathlib.Core.Path.{◌≡◌, refl, sym, ap, ap₂, ◌∙◌, subst}
use mathlib.Core.Bool.{Bool, true, false, cond}
use mathlib.Core.List.{List, [], ◌∷◌, ◌++◌}
use native.Mathlib.Nat.{pow-zero, pow-succ', pow-le-pow_right, mul_comm, div-one, div-div-eq-div-mul, div-lt_iff_lt-mul, mod-lt, mul-div-le, div-add-mod}
use native.Mathlib.Decide.{dec_lt}
use native.Mathlib.Omega.{arith}
use lib.Dec.{ltb}
use lib.ListN.{length, length-append}
use borrow.Author.Tests.{lt-ltb, le-ltb}
use Rattle.listing.specs.Text.{glyph, spelled, width_by, width, decimal, hex, digit_of, worth_from, worth}
use Rattle.listing.specs.Inside.{Adds}
use Rattle.listing.specs.declared.text.Text.{Text}
use Rattle.listing.proofs.Texts.{adds_none, adds_then, adds_as}

-- powers of a base
module _ (base : ℕ) (two : 1 < base) where
  pub power_pos : (i : ℕ) → 0 < base ^ i
  power_pos i = omega (arith, pow-zero base, pow-le-pow_right {n = base} (omega arith) {i = 0} {j = i} zero-le)

  pub power_fits : (i k : ℕ) → i ≤ k → base ^ (k - 1) < 2 ^ 64 → base ^ (i - 1) < 2 ^ 64
  power_fits i k l h = omega (arith, pow-le-pow_right {n = base} (omega arith) {i = i - 1} {j = k - 1} (omega arith))

-- digit by digit: with i digits left, what is written are the digits of the number divided by that power of the base
module _ (self : Text) (n base k : ℕ) where
  abbrev pub Spelled : ℕ → Text → Type 0
  Spelled i t = Adds self (spelled base (k - i) (n / base ^ i)) t

  pub spelled_start : Spelled k self
  unfolding spelled
  spelled_start = let z : 0 ≡ k - k = omega arith in adds_as (ap (λ (j : ℕ). spelled base j (n / base ^ k)) z) adds_none

  module _ {t : Text} (i : ℕ) (now : Spelled i t) where
    pub spelled_next : 0 < i → i ≤ k → {next : Text} → Adds t (glyph (n / base ^ (i - 1) % base) ∷ []) next → Spelled (i - 1) next
    unfolding spelled
    spelled_next h few add =
        let e : i ≡ suc (i - 1) = omega arith in
        let z : k - (i - 1) ≡ suc (k - i) = omega arith in
        let d : n / base ^ i ≡ n / base ^ (i - 1) / base =
        ap (λ (j : ℕ). n / base ^ j) e ∙ ap (λ (x : ℕ). n / x) (pow-succ' base (i - 1) ∙ mul_comm base (base ^ (i - 1))) ∙ sym (div-div-eq-div-mul n (base ^ (i - 1)) base) in
        adds_as (
        ap (λ (x : ℕ). spelled base (k - i) x ++ glyph (n / base ^ (i - 1) % base) ∷ []) d
        ∙ sym (ap (λ (j : ℕ). spelled base j (n / base ^ (i - 1))) z)
        ) (adds_then now add)

    pub spelled_done : i ≤ 0 → Adds self (spelled base k n) t
    spelled_done h =
        let none : i ≡ 0 = omega arith in
        let all : k - 0 ≡ k = omega arith in
        adds_as (ap (λ (j : ℕ). spelled base (k - j) (n / base ^ j)) none ∙ ap₂ (spelled base) all (ap (λ (x : ℕ). n / x) (pow-zero base) ∙ div-one n)) now

-- a number has a digit at least
some : (d n : ℕ) → 0 < width_by d n
unfolding width_by
some zero n = omega arith
some (suc d) n = go (ltb n 10)
  where
    go : (t : Bool) → 0 < cond t 1 (suc (width_by d (n / 10)))
    go true = omega arith
    go false = omega arith

pub width_pos : (n : ℕ) → 0 < width n
width_pos n = some 19 n

-- how long a number is as text, and what its digits are worth
pub spelled_long : (b k n : ℕ) → length (spelled b k n) ≡ k
unfolding spelled
spelled_long b zero n = refl
spelled_long b (suc k) n = length-append (spelled b k (n / b)) (glyph (n % b) ∷ []) ∙ omega (arith, spelled_long b k (n / b))

width_most : (d n : ℕ) → width_by d n ≤ suc d
unfolding width_by
width_most zero n = omega arith
width_most (suc d) n = go (ltb n 10) (width_most d (n / 10))
  where
    go : (t : Bool) → width_by d (n / 10) ≤ suc d → cond t 1 (suc (width_by d (n / 10))) ≤ suc (suc d)
    go true h = omega arith
    go false h = omega arith

pub decimal_short : (n : ℕ) → length (decimal n) ≤ 20
decimal_short n = omega (arith, spelled_long 10 (width n) n, width_most 19 n)

-- the worth of digits, from the last on
worth_last : (b v : ℕ) (xs : List ℕ) (c : ℕ) → worth_from b v (xs ++ c ∷ []) ≡ b * worth_from b v xs + digit_of c
unfolding worth_from
worth_last b v [] c = refl
worth_last b v (x ∷ xs) c = worth_last b (b * v + digit_of x) xs c

digit_back : (d : ℕ) → d < 16 → digit_of (glyph d) ≡ d
digit_back d l = go (dec_lt d 10)
  where
    go : Dec (d < 10) → digit_of (glyph d) ≡ d
    go (yes h) = rw (lt-ltb d 10 h, lt-ltb (48 + d) 58 (omega arith)) (omega arith)
    go (no h) = rw (le-ltb d 10 (omega arith), le-ltb (87 + d) 58 (omega arith)) (omega arith)

spelled_worth : (b k n : ℕ) → 1 < b → b ≤ 16 → n < b ^ k → worth b (spelled b k n) ≡ n
unfolding spelled worth_from
spelled_worth b zero n two few l = omega (arith, pow-zero b)
spelled_worth b (suc k) n two few l =
    let less : n / b < b ^ k = (div-lt_iff_lt-mul {k = b} {x = n} {y = b ^ k} (omega arith)).1 (omega (arith, pow-succ' b k, mul_comm b (b ^ k))) in
    worth_last b 0 (spelled b k (n / b)) (glyph (n % b))
    ∙ ap₂ (λ (x y : ℕ). b * x + y) (spelled_worth b k (n / b) two few less) (digit_back (n % b) (omega (arith, mod-lt n {m = b} (omega arith))))
    ∙ div-add-mod n b

-- as many digits hold the number as its width says, and no fewer
width_holds : (d n : ℕ) → n < 10 ^ suc d → n < 10 ^ width_by d n
unfolding width_by
width_holds zero n l = l
width_holds (suc d) n l = go (dec_lt n 10) (width_holds d (n / 10) ((div-lt_iff_lt-mul (omega arith)).1 (omega (arith, pow-succ' 10 (suc d)))))
  where
    go : Dec (n < 10) → n / 10 < 10 ^ width_by d (n / 10) → n < 10 ^ cond (ltb n 10) 1 (suc (width_by d (n / 10)))
    go (yes h) w = rw (lt-ltb n 10 h) h
    go (no h) w = rw (le-ltb n 10 (omega arith)) (omega (arith, pow-succ' 10 (width_by d (n / 10)), (div-lt_iff_lt-mul {k = 10} (omega arith)).0 w))

width_one : (d n : ℕ) → n < 10 → width_by d n ≡ 1
unfolding width_by
width_one zero n l = refl
width_one (suc d) n l = rw (lt-ltb n 10 l)

width_fewest : (d n : ℕ) → 10 ≤ n → 10 ^ (width_by d n - 1) ≤ n
unfolding width_by
width_fewest zero n h = omega (arith, pow-zero 10)
width_fewest (suc d) n h = rw (le-ltb n 10 h) (go (dec_lt (n / 10) 10) (width_fewest d (n / 10)))
  where
    go : Dec (n / 10 < 10) → (10 ≤ n / 10 → 10 ^ (width_by d (n / 10) - 1) ≤ n / 10) → 10 ^ (suc (width_by d (n / 10)) - 1) ≤ n
    go (yes l) ih = let e : suc (width_by d (n / 10)) - 1 ≡ 1 = omega (arith, width_one d (n / 10) l) in subst (λ (i : ℕ). 10 ^ i ≤ n) (sym e) h
    go (no l) ih =
        let w = width_by d (n / 10) in
        let e : suc w - 1 ≡ suc (w - 1) = omega (arith, some d (n / 10)) in
        subst (λ (i : ℕ). 10 ^ i ≤ n) (sym e) (omega (arith, pow-succ' 10 (w - 1), ih (omega arith), mul-div-le n 10))

pub decimal_worth : (n : ℕ) → n < 10 ^ 20 → worth 10 (decimal n) ≡ n
decimal_worth n l = spelled_worth 10 (width n) n (omega arith) (omega arith) (width_holds 19 n l)

pub hex_worth : (d : ℕ) → d < 2 ^ 64 → worth 16 (hex d) ≡ d
hex_worth d l = spelled_worth 16 16 d (omega arith) (omega arith) l

pub decimal_fewest : (n : ℕ) → 10 ≤ n → 10 ^ (width n - 1) ≤ n
decimal_fewest n h = width_fewest 19 n h

-- and so many are one more than its logarithm
pub width_is : (n i : ℕ) → n < 2 ^ 64 → 10 ^ i ≤ max n 1 → max n 1 < 10 * 10 ^ i → width n ≡ i + 1
width_is n i low reached next = go (dec_lt n 10) (dec_lt i (width n)) (dec_lt (width n) (suc (suc i)))
  where
    up : {j k : ℕ} → j ≤ k → 10 ^ j ≤ 10 ^ k
    up {j} {k} l = pow-le-pow_right {n = 10} (omega arith) {i = j} {j = k} l

    go : Dec (n < 10) → Dec (i < width n) → Dec (width n < suc (suc i)) → width n ≡ i + 1
    go (yes l) _ _ = width_one 19 n l ∙ none i reached
      where
        none : (i : ℕ) → 10 ^ i ≤ max n 1 → 1 ≡ i + 1
        none zero h = refl
        none (suc i) h = absurd (omega (arith, pow-succ' 10 i, power_pos 10 (omega arith) i))
    go (no l) (yes a) (yes b) = omega arith
    go (no l) (no a) _ = absurd (omega (arith, width_holds 19 n (omega arith), up {j = width n} {k = i} (omega arith)))
    go (no l) (yes a) (no b) = absurd (omega (arith, decimal_fewest n (omega arith), up {j = suc i} {k = width n - 1} (omega arith), pow-succ' 10 i))
