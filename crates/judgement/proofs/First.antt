-- THE FIRST NUMBER IN A RANGE at which a test holds: one turn of the loop that looks for it, and what the answer means.
-- Either the test holds at a least number of the range and the answer is f there, or it holds nowhere in the range and the answer is `out`;
-- whoever says which it is, by any way, has the answer.
use Prim.Native.Nat.{ℕ, zero, suc, ◌+◌, ◌-◌, ◌<◌, ◌≤◌, zero-le}
use mathlib.Core.Path.{◌≡◌, refl, sym, ap, ◌∙◌}
use mathlib.Core.Bool.{Bool, true, false, cond}
use native.Mathlib.Numerals.{add-one}
use native.Mathlib.Decide.{ℕ_discrete}
use native.Mathlib.Omega.{arith}
use Rattle.judgement.specs.Judgement.{first_of}

module _ {A : Type 0} (t : ℕ → Bool) (f : ℕ → A) (out : A) where
  -- one number: it is a hit, or the search goes on behind it
  pub first_hit : (d k : ℕ) → t k ≡ true → first_of t f out (suc d) k ≡ f k
  unfolding first_of
  first_hit d k e = rw e

  pub first_miss : (d k : ℕ) → t k ≡ false → first_of t f out (suc d) k ≡ first_of t f out d (suc k)
  unfolding first_of
  first_miss d k e = rw e

  -- a loop over the numbers below n that has come to k: the first of all is the first of those left
  pub record Looking (n k : ℕ) : Type 0 where
    pub few : k ≤ n
    pub left : first_of t f out n 0 ≡ first_of t f out (n - k) k

  pub looking_start : (n : ℕ) → Looking n 0
  looking_start n = record { few = zero-le; left = ap (λ (d : ℕ). first_of t f out d 0) (omega arith) }

  module _ {n k : ℕ} (now : Looking n k) where
    behind : k < n → first_of t f out n 0 ≡ first_of t f out (suc (n - (k + 1))) k
    behind l = let z : n - k ≡ suc (n - (k + 1)) = omega arith in now.left ∙ ap (λ (d : ℕ). first_of t f out d k) z

    pub looking_next : k < n → t k ≡ false → Looking n (k + 1)
    looking_next l e = record { few = omega arith; left = behind l ∙ first_miss (n - (k + 1)) k e ∙ ap (first_of t f out (n - (k + 1))) (sym (add-one k)) }

    pub looking_hit : k < n → t k ≡ true → first_of t f out n 0 ≡ f k
    looking_hit l e = behind l ∙ first_hit (n - (k + 1)) k e

    pub looking_end : n ≤ k → first_of t f out n 0 ≡ out
    unfolding first_of
    looking_end l = let z : n - k ≡ 0 = omega arith in now.left ∙ ap (λ (d : ℕ). first_of t f out d k) z

  -- a loop that comes down over the numbers below n and is at k: r is the first of those from k on
  pub record Back (n k : ℕ) (r : A) : Type 0 where
    pub few : k ≤ n
    pub is : r ≡ first_of t f out (n - k) k

  pub back_start : (n : ℕ) → Back n n out
  unfolding first_of
  back_start n = let z : 0 ≡ n - n = omega arith in record { few = omega arith; is = ap (λ (d : ℕ). first_of t f out d n) z }

  module _ {n k : ℕ} {r : A} (now : Back n k r) (i : ℕ) (next : i + 1 ≡ k) where
    down : suc (n - k) ≡ n - i
    down = omega (arith, now.few)

    pub back_hit : t i ≡ true → Back n i (f i)
    back_hit e = record { few = omega (arith, now.few); is = sym (first_hit (n - k) i e) ∙ ap (λ (d : ℕ). first_of t f out d i) down }

    pub back_miss : t i ≡ false → Back n i r
    back_miss e =
        let z : k ≡ suc i = omega arith in
        record { few = omega (arith, now.few); is = now.is ∙ ap (first_of t f out (n - k)) z ∙ sym (first_miss (n - k) i e) ∙ ap (λ (d : ℕ). first_of t f out d i) down }

  pub back_end : {n k : ℕ} {r : A} → Back n k r → k ≡ 0 → r ≡ first_of t f out n 0
  back_end {n} b z = b.is ∙ rw z (let e : n - 0 ≡ n = omega arith in ap (λ (d : ℕ). first_of t f out d 0) e)

  -- what an answer means: x is the least of d numbers from k that passes, or none of them does
  pub data First (d k : ℕ) : A → Type 0 where
    there : (x : ℕ) → k ≤ x → x < k + d → t x ≡ true → ((y : ℕ) → k ≤ y → y < x → t y ≡ false) → First d k (f x)
    nowhere : ((y : ℕ) → k ≤ y → y < k + d → t y ≡ false) → First d k out

  -- THE LAW: the answer means that, and there is no other
  pub first : (d k : ℕ) → First d k (first_of t f out d k)
  unfolding first_of
  first zero k = nowhere (λ y a b. absurd (omega arith))
  first (suc d) k = go (t k) refl (first d (suc k))
    where
      missed : t k ≡ false → (n : ℕ) → ((y : ℕ) → suc k ≤ y → y < n → t y ≡ false) → (y : ℕ) → k ≤ y → y < n → t y ≡ false
      missed e n below y a b = elim (ℕ_discrete y k) [ yes q ↦ ap t q ∙ e | no q ↦ below y (omega arith) b ]

      on : t k ≡ false → {r : A} → First d (suc k) r → First (suc d) k r
      on e (there x a b h below) = there x (omega arith) (omega arith) h (missed e x below)
      on e (nowhere none) = nowhere (missed e (k + suc d) (λ y a b. none y a (omega arith)))

      go : (b : Bool) → t k ≡ b → First d (suc k) (first_of t f out d (suc k)) → First (suc d) k (cond b (f k) (first_of t f out d (suc k)))
      go true e rest = there k (omega arith) (omega arith) e (λ y a b. absurd (omega arith))
      go false e rest = on e rest

  pub first_only : (d k : ℕ) {r : A} → First d k r → r ≡ first_of t f out d k
  unfolding first_of
  first_only zero k (there x a b h below) = absurd (omega arith)
  first_only zero k (nowhere none) = refl
  first_only (suc d) k (there x a b h below) = elim (ℕ_discrete x k) [
    | yes q ↦ ap f q ∙ sym (first_hit d k (ap t (sym q) ∙ h))
    | no q ↦ first_only d (suc k) (there x (omega arith) (omega arith) h (λ y c. below y (omega arith))) ∙ sym (first_miss d k (below k (omega arith) (omega arith)))
  ]
  first_only (suc d) k (nowhere none) = first_only d (suc k) (nowhere (λ y a b. none y (omega arith) (omega arith))) ∙ sym (first_miss d k (none k (omega arith) (omega arith)))

-- tests and answers that agree in the range have the same first
module _ {A : Type 0} (t t' : ℕ → Bool) (f f' : ℕ → A) (out : A) where
  pub first_alike : (d k : ℕ) → ((x : ℕ) → k ≤ x → x < k + d → (t x ≡ t' x) × (f x ≡ f' x)) → first_of t f out d k ≡ first_of t' f' out d k
  unfolding first_of
  first_alike zero k h = refl
  first_alike (suc d) k h =
      let here = h k (omega arith) (omega arith) in
      rw (here.0, here.1, first_alike d (suc k) (λ x p q. h x (omega arith) (omega arith)))

-- an answer made of the answer is the answer of the search for it
pub first_map : {A B : Type 0} (g : A → B) (t : ℕ → Bool) (f : ℕ → A) (out : A) (d k : ℕ) → g (first_of t f out d k) ≡ first_of t (λ x. g (f x)) (g out) d k
unfolding first_of
first_map g t f out zero k = refl
first_map g t f out (suc d) k = go (t k) (first_map g t f out d (suc k))
  where
    go : (u : Bool) → g (first_of t f out d (suc k)) ≡ first_of t (λ x. g (f x)) (g out) d (suc k) → g (cond u (f k) (first_of t f out d (suc k))) ≡ cond u (g (f k)) (first_of t (λ x. g (f x)) (g out) d (suc k))
    go true ih = refl
    go false ih = ih

-- a range in two parts, and a range counted from its own start
module _ {A : Type 0} (t : ℕ → Bool) (f : ℕ → A) (out : A) where
  pub first_shift : (a d k : ℕ) → first_of t f out d (a + k) ≡ first_of (λ i. t (a + i)) (λ i. f (a + i)) out d k
  unfolding first_of
  first_shift a zero k = refl
  first_shift a (suc d) k =
      let e : suc (a + k) ≡ a + suc k = omega arith in
      ap (λ (r : A). cond (t (a + k)) (f (a + k)) r) (ap (first_of t f out d) e ∙ first_shift a d (suc k))

  pub first_parts : (a c k : ℕ) → first_of t f out (a + c) k ≡ first_of t f (first_of t f out c (a + k)) a k
  unfolding first_of
  first_parts zero c k = let e : 0 + c ≡ c = omega arith in let z : k ≡ 0 + k = omega arith in ap (λ (d : ℕ). first_of t f out d k) e ∙ ap (first_of t f out c) z
  first_parts (suc a) c k =
      let e : suc a + c ≡ suc (a + c) = omega arith in
      let z : a + suc k ≡ suc a + k = omega arith in
      ap (λ (d : ℕ). first_of t f out d k) e ∙ ap (λ (r : A). cond (t k) (f k) r) (first_parts a c (suc k) ∙ ap (λ (x : ℕ). first_of t f (first_of t f out c x) a (suc k)) z)
