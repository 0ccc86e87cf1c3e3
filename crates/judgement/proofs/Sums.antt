-- Sums over the numbers below n: one more, term by term, bounds, and two sums in either order.
-- A count of lightpaths or of spans is such a sum of noughts and ones, so every law of loads and scores is one of these.
use Prim.Native.Nat.{ℕ, zero, suc, ◌+◌, ◌*◌, ◌<◌, ◌≤◌, zero-le}
use mathlib.Core.Path.{◌≡◌, refl, sym, ap, ◌∙◌, subst}
use mathlib.Core.List.{List, [], ◌∷◌}
use mathlib.Core.Bool.{Bool, true, false, ◌||◌}
use native.Mathlib.Nat.{le_refl, mul-suc, suc-mul}
use native.Mathlib.Numerals.{add-one}
use native.Mathlib.Decide.{dec_lt, ℕ_discrete}
use native.Mathlib.Omega.{arith}
use lib.ListN.{length}
use lib.Dec.{eqb}
use borrow.Author.Tests.{eq-eqb, ne_eqb}
use Rattle.book.specs.Book.{among}
use Rattle.judgement.specs.Judgement.{sum, one}

pub sum_next : (f : ℕ → ℕ) (k : ℕ) → sum f (k + 1) ≡ sum f k + f k
unfolding sum
sum_next f k = ap (sum f) (add-one k)

-- terms that agree below n have the same sum
pub sum_alike : (f g : ℕ → ℕ) (n : ℕ) → ((k : ℕ) → k < n → f k ≡ g k) → sum f n ≡ sum g n
unfolding sum
sum_alike f g zero h = refl
sum_alike f g (suc n) h = rw (sum_alike f g n (λ k l. h k (omega arith)), h n (le_refl (suc n)))

-- the first a terms, and the b after them
pub sum_split : (f : ℕ → ℕ) (a b : ℕ) → sum f (a + b) ≡ sum f a + sum (λ i. f (a + i)) b
unfolding sum
sum_split f a zero = let z : a + 0 ≡ a = omega arith in rw z (omega arith)
sum_split f a (suc b) = let z : a + suc b ≡ suc (a + b) = omega arith in rw z (omega (arith, sum_split f a b))

-- nought exactly if every term is
pub sum_none : (f : ℕ → ℕ) (n : ℕ) → ((k : ℕ) → k < n → f k ≡ 0) → sum f n ≡ 0
unfolding sum
sum_none f zero h = refl
sum_none f (suc n) h = omega (arith, sum_none f n (λ k l. h k (omega arith)), h n (omega arith))

pub none_sum : (f : ℕ → ℕ) (n : ℕ) → sum f n ≡ 0 → (k : ℕ) → k < n → f k ≡ 0
unfolding sum
none_sum f zero e k l = absurd (omega arith)
none_sum f (suc n) e k l = elim (ℕ_discrete k n) [ yes q ↦ ap f q ∙ omega arith | no q ↦ none_sum f n (omega arith) k (omega arith) ]

-- greater terms, more terms, and terms of at most w; one term greater makes the sum greater
pub sum_le : (f g : ℕ → ℕ) (n : ℕ) → ((k : ℕ) → k < n → f k ≤ g k) → sum f n ≤ sum g n
unfolding sum
sum_le f g zero h = zero-le
sum_le f g (suc n) h = omega (arith, sum_le f g n (λ k l. h k (omega arith)), h n (le_refl (suc n)))

pub sum_less : (f g : ℕ → ℕ) (n i : ℕ) → ((k : ℕ) → k < n → f k ≤ g k) → i < n → f i < g i → sum f n < sum g n
unfolding sum
sum_less f g zero i h l q = absurd (omega arith)
sum_less f g (suc n) i h l q = go (λ z. sum_less f g n i (λ k b. h k (omega arith)) z q) (ℕ_discrete i n)
  where
    go : (i < n → sum f n < sum g n) → Dec (i ≡ n) → sum f n + f n < sum g n + g n
    go ih (yes y) = let r : f n < g n = subst (λ (k : ℕ). f k < g k) y q in omega (arith, sum_le f g n (λ k b. h k (omega arith)))
    go ih (no z) = omega (arith, ih (omega arith), h n (omega arith))

-- the sum of the first n numbers
pub sum_numbers : (n : ℕ) → sum (λ i. i) n + n ≤ n * n
unfolding sum
sum_numbers zero = zero-le
sum_numbers (suc n) = omega (arith, sum_numbers n, suc-mul n (suc n), mul-suc n n)

pub sum_longer : (f : ℕ → ℕ) (k n : ℕ) → k ≤ n → sum f k ≤ sum f n
unfolding sum
sum_longer f k zero l = let z : k ≡ 0 = omega arith in rw z zero-le
sum_longer f k (suc n) l = go (dec_lt n k) (λ h. sum_longer f k n h)
  where
    go : Dec (n < k) → (k ≤ n → sum f k ≤ sum f n) → sum f k ≤ sum f n + f n
    go (yes h) ih = let z : k ≡ suc n = omega arith in rw z (le_refl _)
    go (no h) ih = omega (arith, ih (omega arith))

pub sum_most : (w : ℕ) (f : ℕ → ℕ) (n : ℕ) → ((k : ℕ) → k < n → f k ≤ w) → sum f n ≤ w * n
unfolding sum
sum_most w f zero h = zero-le
sum_most w f (suc n) h = omega (arith, sum_most w f n (λ k l. h k (omega arith)), h n (le_refl (suc n)), mul-suc w n)

-- the sum of two is the two sums; and so two sums go in either order
pub sum_plus : (f g : ℕ → ℕ) (n : ℕ) → sum (λ k. f k + g k) n ≡ sum f n + sum g n
unfolding sum
sum_plus f g zero = refl
sum_plus f g (suc n) = omega (arith, sum_plus f g n)

pub sum_swap : (f : ℕ → ℕ → ℕ) (n p : ℕ) → sum (λ x. sum (λ k. f x k) p) n ≡ sum (λ k. sum (λ x. f x k) n) p
unfolding sum
sum_swap f zero p = sym (sum_none (λ k. 0) p (λ k l. refl))
sum_swap f (suc n) p = ap (λ (s : ℕ). s + sum (λ k. f n k) p) (sum_swap f n p) ∙ sym (sum_plus (λ k. sum (λ x. f x k) n) (λ k. f n k) p)

-- a list holds at most as many numbers as it is long
equal_most : (y s : ℕ) → sum (λ x. one (eqb x y)) s ≤ 1
unfolding sum
equal_most y zero = zero-le
equal_most y (suc s) = go (ℕ_discrete s y) (equal_most y s)
  where
    go : Dec (s ≡ y) → sum (λ x. one (eqb x y)) s ≤ 1 → sum (λ x. one (eqb x y)) s + one (eqb s y) ≤ 1
    go (yes e) ih =
        omega (arith, ap one (eq-eqb s y e), sum_none (λ x. one (eqb x y)) s (λ k l. ap one (ne_eqb k y (λ q. omega (arith, q, e, l)))))
    go (no q) ih = omega (arith, ap one (ne_eqb s y q))

or_most : (a b : Bool) → one (a || b) ≤ one a + one b
or_most true b = omega arith
or_most false b = omega arith

pub among_most : (r : List ℕ) (s : ℕ) → sum (λ x. one (among x r)) s ≤ length r
among_most [] s = omega (arith, sum_none (λ x. 0) s (λ k l. refl))
among_most (y ∷ ys) s =
    omega (
      arith,
      sum_le (λ x. one (eqb x y || among x ys)) (λ x. one (eqb x y) + one (among x ys)) s (λ x l. or_most (eqb x y) (among x ys)),
      sum_plus (λ x. one (eqb x y)) (λ x. one (among x ys)) s,
      equal_most y s,
      among_most ys s,
    )
