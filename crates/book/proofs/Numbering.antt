-- THE NUMBERING: numbers below the product of the sizes and valid rows of digits correspond one to one, and a step of the digits adds one.
-- A number is its first digit plus the first size times the number of the other digits, so each law is an induction over the sizes.
use Prim.Native.Nat.{ℕ, zero, suc, ◌+◌, ◌*◌, ◌/◌, ◌%◌, ◌<◌, ◌≤◌}
use mathlib.Core.Path.{◌≡◌, refl, sym, ap, ap₂, ◌∙◌}
use mathlib.Core.List.{List, [], ◌∷◌}
use mathlib.Core.Bool.{Bool, true, false, cond, false≢true}
use native.Mathlib.Nat.{mul_comm, mul_assoc, mul_left_comm, mul-one, one-mul, mul-add, mod-lt, mod-eq_of_lt, mul-pos, div-add-mod', zero-div, zero-mod}
use native.Mathlib.Omega.{arith}
use lib.ListN.{length, get_or, take, set, replicate}
use lib.Arith.{digits_lt, digits_div, digits_mod, mod-mul}
use lib.Dec.{ltb}
use borrow.Author.Tests.{lt-ltb, ltb-true, ltb-false}
use Rattle.book.specs.Choice.{valid, product, weighed, number, digits, stepped}
use Rattle.book.proofs.Tests.{and_inv, and_both}

-- every size is above 0
unfoldable pub Sizes : List ℕ → Type 0
Sizes [] = Unit {0}
Sizes (z ∷ zs) = (0 < z) × Sizes zs

pub product_pos : (zs : List ℕ) → Sizes zs → 0 < product zs
unfolding product Sizes
product_pos [] p = omega arith
product_pos (z ∷ zs) p = mul-pos p.0 (product_pos zs p.1)

-- the weights of the digits go through
weighed_by : (c w : ℕ) (zs ds : List ℕ) → weighed (c * w) zs ds ≡ c * weighed w zs ds
unfolding weighed
weighed_by c w [] ds = omega arith
weighed_by c w (z ∷ zs) [] = omega arith
weighed_by c w (z ∷ zs) (d ∷ ds) =
    ap₂ ◌+◌ (mul_left_comm d c w) (ap (λ (x : ℕ). weighed x zs ds) (mul_assoc c w z) ∙ weighed_by c (w * z) zs ds) ∙ sym (mul-add c (d * w) (weighed (w * z) zs ds))

number_cons : (z d : ℕ) (zs ds : List ℕ) → number (z ∷ zs) (d ∷ ds) ≡ number zs ds * z + d
unfolding weighed
number_cons z d zs ds =
    let a : weighed (1 * z) zs ds ≡ number zs ds * z = ap (λ (x : ℕ). weighed x zs ds) (mul_comm 1 z) ∙ weighed_by z 1 zs ds ∙ mul_comm z (number zs ds) in
    omega (arith, a, mul-one d)

-- a choice from its number is valid, and has that number
pub digits_valid : (zs : List ℕ) (n : ℕ) → Sizes zs → valid zs (digits zs n) ≡ true
unfolding valid digits Sizes
digits_valid [] n p = refl
digits_valid (z ∷ zs) n p = and_both (lt-ltb (n % z) z (mod-lt n p.0)) (digits_valid zs (n / z) p.1)

pub number_digits : (zs : List ℕ) (n : ℕ) → Sizes zs → number zs (digits zs n) ≡ n % product zs
unfolding product digits weighed Sizes
number_digits [] n p = sym (omega (arith, mod-lt n {m = 1} (omega arith)))
number_digits (z ∷ zs) n p =
    number_cons z (n % z) zs (digits zs (n / z))
    ∙ ap (λ (x : ℕ). x * z + n % z) (number_digits zs (n / z) p.1)
    ∙ sym (mod-mul n {m = product zs} {c = z} (product_pos zs p.1) p.0) ∙ ap (λ (x : ℕ). n % x) (mul_comm (product zs) z)

pub number_of : (zs : List ℕ) (n : ℕ) → Sizes zs → n < product zs → number zs (digits zs n) ≡ n
number_of zs n p l = number_digits zs n p ∙ mod-eq_of_lt l

-- the number of a valid choice is below the number of choices, and gives the choice back
pub number_below : (zs ds : List ℕ) → valid zs ds ≡ true → number zs ds < product zs
unfolding valid product weighed
number_below [] [] v = omega arith
number_below [] (d ∷ ds) v = absurd (false≢true v)
number_below (z ∷ zs) [] v = absurd (false≢true v)
number_below (z ∷ zs) (d ∷ ds) v =
    let a = and_inv {a = ltb d z} v in
    let b = digits_lt {c = z} (number_below zs ds a.1) (ltb-true d z a.0) in
    omega (arith, b, number_cons z d zs ds, mul_comm z (product zs))

pub digits_of : (zs ds : List ℕ) → valid zs ds ≡ true → digits zs (number zs ds) ≡ ds
unfolding valid digits
digits_of [] [] v = refl
digits_of [] (d ∷ ds) v = absurd (false≢true v)
digits_of (z ∷ zs) [] v = absurd (false≢true v)
digits_of (z ∷ zs) (d ∷ ds) v =
    let a = and_inv {a = ltb d z} v in
    let l = ltb-true d z a.0 in
    rw (number_cons z d zs ds, digits_mod (number zs ds) l, digits_div (number zs ds) l, digits_of zs ds a.1)

-- so two valid choices with one number are one choice
pub number_one : (zs ds es : List ℕ) → valid zs ds ≡ true → valid zs es ≡ true → number zs ds ≡ number zs es → ds ≡ es
number_one zs ds es v w e = sym (digits_of zs ds v) ∙ ap (digits zs) e ∙ digits_of zs es w

-- one more: the first digit goes up, or it goes back to 0 and carries
carry_no : (n z : ℕ) → n % z + 1 < z → ((n + 1) % z ≡ n % z + 1) × ((n + 1) / z ≡ n / z)
carry_no n z h =
    let e : n + 1 ≡ n / z * z + (n % z + 1) = omega (arith, div-add-mod' n z) in
    (ap (λ (x : ℕ). x % z) e ∙ digits_mod (n / z) h, ap (λ (x : ℕ). x / z) e ∙ digits_div (n / z) h)

carry_yes : (n z : ℕ) → 0 < z → z ≤ n % z + 1 → ((n + 1) % z ≡ 0) × ((n + 1) / z ≡ n / z + 1)
carry_yes n z p h =
    let m = mod-lt n p in
    let e : n + 1 ≡ (n / z + 1) * z + 0 = omega (arith, div-add-mod' n z, m) in
    (ap (λ (x : ℕ). x % z) e ∙ digits_mod (n / z + 1) p, ap (λ (x : ℕ). x / z) e ∙ digits_div (n / z + 1) p)

pub step_digits : (zs : List ℕ) (n : ℕ) → Sizes zs → stepped zs (digits zs n) ≡ digits zs (n + 1)
unfolding stepped digits Sizes
step_digits [] n p = refl
step_digits (z ∷ zs) n p = go (ltb (n % z + 1) z) refl (step_digits zs (n / z) p.1)
  where
    go : (t : Bool) → ltb (n % z + 1) z ≡ t → stepped zs (digits zs (n / z)) ≡ digits zs (n / z + 1)
        → cond t ((n % z + 1) ∷ digits zs (n / z)) (0 ∷ stepped zs (digits zs (n / z))) ≡ ((n + 1) % z) ∷ digits zs ((n + 1) / z)
    go true e ih = let w = carry_no n z (ltb-true _ _ e) in rw (w.0, w.1)
    go false e ih = let w = carry_yes n z p.0 (ltb-false _ _ e) in rw (w.0, w.1, ih)

-- THE LAW of stepping: the next choice is valid and has the next number, and 0 after the last
pub step_number : (zs ds : List ℕ) → Sizes zs → valid zs ds ≡ true → (valid zs (stepped zs ds) ≡ true) × (number zs (stepped zs ds) ≡ (number zs ds + 1) % product zs)
step_number zs ds p v =
    let e : stepped zs ds ≡ digits zs (number zs ds + 1) = ap (stepped zs) (sym (digits_of zs ds v)) ∙ step_digits zs (number zs ds) p in
    rw e (digits_valid zs (number zs ds + 1) p, number_digits zs (number zs ds + 1) p)

-- a digit weighs the product of the sizes before it: the first is the fastest, with weight 1
raised : (w : ℕ) (zs ds : List ℕ) (i : ℕ) → length zs ≡ length ds → i < length ds → weighed w zs (set ds i (get_or ds i 0 + 1)) ≡ weighed w zs ds + w * product (take i zs)
unfolding weighed product
raised w zs [] i e l = absurd (omega arith)
raised w [] (d ∷ ds) i e l = absurd (omega arith)
raised w (z ∷ zs) (d ∷ ds) zero e l = omega (arith, mul-one w)
raised w (z ∷ zs) (d ∷ ds) (suc i) e l = omega (arith, raised (w * z) zs ds i (omega arith) (omega arith), mul_assoc w z (product (take i zs)))

pub digit_weighs : (zs ds : List ℕ) (i : ℕ) → length zs ≡ length ds → i < length ds → number zs (set ds i (get_or ds i 0 + 1)) ≡ number zs ds + product (take i zs)
digit_weighs zs ds i e l = raised 1 zs ds i e l ∙ ap (λ (x : ℕ). number zs ds + x) (one-mul (product (take i zs)))

-- choice 0 has every digit 0
pub digits_zero : (zs : List ℕ) → digits zs 0 ≡ replicate (length zs) 0
unfolding digits
digits_zero [] = refl
digits_zero (z ∷ zs) = ap₂ ◌∷◌ (zero-mod z) (ap (digits zs) (zero-div z) ∙ digits_zero zs)
