-- The loops over the eight digits: what is left to compute from digit i on gives, with what is computed, the whole.
-- Every size is at most 8, so that a product of i of them is at most 8 to the power i, and no sum or product here leaves 32 bits.
use Prim.Native.Nat.{ℕ, zero, suc, ◌+◌, ◌-◌, ◌*◌, ◌/◌, ◌%◌, ◌^◌, ◌≤◌, ◌<◌, min}
use mathlib.Core.Path.{◌≡◌, refl, sym, ap, ap₂, ◌∙◌, subst}
use mathlib.Core.List.{List, [], ◌∷◌, ◌++◌, map-id, append_assoc, append-nil}
use mathlib.Core.Logic.{◌⊎◌, inl, inr}
use mathlib.Core.Bool.{Bool, cond}
use native.Mathlib.Numerals.{add-one}
use native.Mathlib.Nat.{mul_assoc, mul-one, one-mul, mul-le-mul, mul-le-mul_left, mul-le-mul_right, pow-succ'}
use native.Mathlib.Omega.{arith}
use lib.ListN.{length, get_or, take, drop, set, length-map, drop_of_length-le, get_or-map}
use lib.Seq.{drop-cons, take-suc-set, drop-set-lt, set_split, take_all}
use lib.Dec.{ltb}
use borrow.Author.Tests.{lt-ltb, le-ltb}
use Rattle.std.specs.Bool.{⊤}
use Rattle.std.specs.Iterator.{Yields, Drains}
use Rattle.std.specs.Iterator.Runs.{EachRunFrom, YieldsRun}
use Rattle.std.specs.List.{fold}
use Rattle.std.specs.Prelude.{Option}
use Rattle.std.proofs.lemmas.Iterator.{YieldsList}
use Rattle.std.proofs.lemmas.Iterator.Adapters.{total_from_yields_List}
use Rattle.std.proofs.lemmas.Iterator.Consumers.{YieldsList-so_far}
use Rattle.book.specs.Choice.{product, weighed, number, digits, stepped}
use Rattle.book.specs.Moving.{capped}

-- the size of digit i, and those after it
from_size : (ws : List ℕ) (i : ℕ) → length ws ≡ 8 → i < 8 → drop i (capped ws) ≡ suc (min (get_or ws i 0) 7) ∷ drop (i + 1) (capped ws)
from_size ws i long l =
    drop-cons (capped ws) i 1 (omega (arith, long, length-map ws (λ (x : ℕ). suc (min x 7))))
    ∙ ap₂ (λ (x : ℕ) (y : ℕ). x ∷ drop y (capped ws)) (get_or-map (λ (x : ℕ). suc (min x 7)) ws i 0) (sym (add-one i))

from_digit : (ds : List ℕ) (i : ℕ) → length ds ≡ 8 → i < 8 → drop i ds ≡ get_or ds i 0 ∷ drop (i + 1) ds
from_digit ds i long l = drop-cons ds i 0 (omega (arith, long)) ∙ ap (λ (y : ℕ). get_or ds i 0 ∷ drop y ds) (sym (add-one i))

up_to : (out : List ℕ) (i x : ℕ) (t : List ℕ) → length out ≡ 8 → i < 8 → take (i + 1) (set out i x) ++ t ≡ take i out ++ (x ∷ t)
up_to out i x t long l =
    ap (λ (y : ℕ). take y (set out i x) ++ t) (add-one i) ∙ ap (λ (y : List ℕ). y ++ t) (take-suc-set out i x (omega (arith, long))) ∙ append_assoc (take i out) (x ∷ []) t

no_more : (ws : List ℕ) (i : ℕ) → length ws ≡ 8 → 8 ≤ i → drop i (capped ws) ≡ []
no_more ws i long l = drop_of_length-le (capped ws) {i = i} (omega (arith, long, length-map ws (λ (x : ℕ). suc (min x 7))))

-- the product of the sizes is at most 8 for each
power_some : (n : ℕ) → 1 ≤ 8 ^ n
power_some zero = omega arith
power_some (suc n) = omega (arith, power_some n, pow-succ' 8 n)

pub product_some : (ws : List ℕ) → 1 ≤ product (capped ws)
unfolding product
product_some [] = omega arith
product_some (w ∷ ws) = let a : 1 * 1 ≤ suc (min w 7) * product (capped ws) = mul-le-mul {n₁ = 1} {n₂ = suc (min w 7)} (omega arith) (product_some ws) in omega (arith, a)

pub product_most : (ws : List ℕ) → product (capped ws) ≤ 8 ^ length ws
unfolding product
product_most [] = omega arith
product_most (w ∷ ws) =
    let a : suc (min w 7) * product (capped ws) ≤ 8 * 8 ^ length ws = mul-le-mul {n₁ = suc (min w 7)} {n₂ = 8} (omega arith) (product_most ws) in
    omega (arith, a, pow-succ' 8 (length ws))

-- the first k sizes have no larger product; and the library's product of a list is this one
product_front : (k : ℕ) (ws : List ℕ) → product (take k (capped ws)) ≤ product (capped ws)
unfolding product
product_front zero ws = product_some ws
product_front (suc k) [] = omega arith
product_front (suc k) (w ∷ ws) = mul-le-mul_left (suc (min w 7)) (product_front k ws)

folded : (a : ℕ) (xs : List ℕ) → fold (λ n x. n * x) a xs ≡ a * product xs
unfolding product
folded a [] = sym (mul-one a)
folded a (x ∷ xs) = folded (a * x) xs ∙ mul_assoc a x (product xs)

-- so the product along an iterator of the sizes fits, and is the product of all
module _ {S : Type 0} {steps : S → Option ℕ → S → Type 0} {s : S} (ws : List ℕ) (road : YieldsList steps (λ x. x) s (capped ws)) where
  pub product_fits : length ws ≡ 8 → EachRunFrom steps s (λ p. fold (λ n x. n * x) 1 p.items < 2 ^ 32)
  unfolding YieldsRun
  product_fits long p seen at =
      let front = YieldsList-so_far road p.items p.gave.0.0 (subst (λ u. Yields steps u p.items p.gave.0.0) at p.gave.0.1) in
      omega (arith, folded 1 p.items, ap product (sym (map-id p.items) ∙ front), product_front (length p.items) ws, product_most ws, ap (λ (n : ℕ). 8 ^ n) long)

  pub product_all : (r : ℕ) → ((xs : List ℕ) × (⊤ → Drains steps s xs) × (r ≡ fold (λ n x. n * x) 1 xs)) → r ≡ product (capped ws)
  product_all r ran = total_from_yields_List (λ n x. n * x) 1 r ran road ∙ folded 1 (capped ws) ∙ one-mul (product (capped ws))

-- the number of the digits that are left, where the next has the weight w; of bytes it is small
weighed_more : (w d z y p n : ℕ) → d ≤ 255 → z + y ≡ 8 → 1 ≤ p → 7 * n + 255 * (w * z) ≤ 255 * (w * z * p) → 7 * (d * w + n) + 255 * w ≤ 255 * (w * (8 * p))
weighed_more w d z y p n l e s h =
    omega (arith, h, mul-le-mul_right w l, mul-le-mul_left (w * y) s, ap (λ (k : ℕ). w * k) e, ap (λ (k : ℕ). w * k * p) e)

weighed_most : (w : ℕ) (ws ds : List ℕ) → ((i : ℕ) → get_or ds i 0 ≤ 255) → 7 * weighed w (capped ws) ds + 255 * w ≤ 255 * (w * 8 ^ length ws)
unfolding weighed
weighed_most w [] ds h = omega arith
weighed_most w (x ∷ ws) [] h = omega (arith, mul-le-mul_left w (power_some (suc (length ws))))
weighed_most w (x ∷ ws) (d ∷ ds) h =
    rw (pow-succ' 8 (length ws))
    (weighed_more w d (suc (min x 7)) (7 - min x 7) (8 ^ length ws) _ (h 0) (omega arith) (power_some (length ws)) (weighed_most (w * suc (min x 7)) ws ds (λ i. h (suc i))))

pub number_most : (ws ds : List ℕ) → length ws ≡ 8 → ((i : ℕ) → get_or ds i 0 ≤ 255) → number (capped ws) ds < 2 ^ 32
number_most ws ds long h = omega (arith, weighed_most 1 ws ds h, ap (λ (n : ℕ). 8 ^ n) long)

-- by the lists of the digits and the numbers of alternatives that are left: their next ones are d and x; or one of them is at its end
pub product_next : (w : ℕ) {x : ℕ} {ws vs : List ℕ} → ws ≡ x ∷ vs → w * product (capped ws) ≡ w * suc (min x 7) * product (capped vs)
unfolding product
product_next w {x} {ws} {vs} is = rw is (sym (mul_assoc w (suc (min x 7)) (product (capped vs))))

pub weighed_next : (w : ℕ) {d x : ℕ} {ds es ws vs : List ℕ} → ds ≡ d ∷ es → ws ≡ x ∷ vs → weighed w (capped ws) ds ≡ d * w + weighed (w * suc (min x 7)) (capped vs) es
unfolding weighed
weighed_next w is_d is_x = rw (is_d, is_x) refl

pub weighed_end : (w : ℕ) (ws ds : List ℕ) → (length ds ≡ 0) ⊎ (length ws ≡ 0) → weighed w (capped ws) ds ≡ 0
unfolding weighed
weighed_end w [] ds e = refl
weighed_end w (x ∷ ws) [] e = refl
weighed_end w (x ∷ ws) (d ∷ ds) (inl e) = absurd (omega arith)
weighed_end w (x ∷ ws) (d ∷ ds) (inr e) = absurd (omega arith)

-- the digits of a number: those found, and those of what is left of the number
module _ (ws out : List ℕ) (i rest : ℕ) (long : length ws ≡ 8) (eight : length out ≡ 8) {whole : List ℕ} (left : take i out ++ digits (drop i (capped ws)) rest ≡ whole) where
  pub split_next : {z : ℕ} → i < 8 → z ≡ suc (min (get_or ws i 0) 7) → take (i + 1) (set out i (rest % z)) ++ digits (drop (i + 1) (capped ws)) (rest / z) ≡ whole
  unfolding digits
  split_next {z} l e =
      up_to out i (rest % z) (digits (drop (i + 1) (capped ws)) (rest / z)) eight l ∙ rw e (ap (λ (x : List ℕ). take i out ++ digits x rest) (sym (from_size ws i long l)) ∙ left)

  pub split_all : 8 ≤ i → out ≡ whole
  unfolding digits
  split_all l = sym (sym left ∙ rw (take_all i out (omega (arith, eight)), no_more ws i long l) (append-nil out))

-- the next choice: the digits before i have gone back to 0, and those from i on are stepped
module _ (ws out : List ℕ) (i : ℕ) (long : length ws ≡ 8) (eight : length out ≡ 8) {whole : List ℕ} (left : take i out ++ stepped (drop i (capped ws)) (drop i out) ≡ whole) where
  module _ (l : i < 8) where
    step_at : (t : Bool) → ltb (get_or out i 0 + 1) (suc (min (get_or ws i 0) 7)) ≡ t
        → stepped (drop i (capped ws)) (drop i out) ≡ cond t ((get_or out i 0 + 1) ∷ drop (i + 1) out) (0 ∷ stepped (drop (i + 1) (capped ws)) (drop (i + 1) out))
    unfolding stepped
    step_at t e = rw (from_size ws i long l, from_digit out i eight l, e)

    pub step_up : get_or out i 0 + 1 < suc (min (get_or ws i 0) 7) → set out i (get_or out i 0 + 1) ≡ whole
    step_up p =
        set_split out i (get_or out i 0 + 1) (omega (arith, eight)) ∙ ap (λ (y : ℕ). take i out ++ ((get_or out i 0 + 1) ∷ drop y out)) (sym (add-one i))
        ∙ ap (λ (x : List ℕ). take i out ++ x) (sym (step_at _ (lt-ltb _ _ p))) ∙ left

    pub step_back : suc (min (get_or ws i 0) 7) ≤ get_or out i 0 + 1 → take (i + 1) (set out i 0) ++ stepped (drop (i + 1) (capped ws)) (drop (i + 1) (set out i 0)) ≡ whole
    step_back p =
        up_to out i 0 (stepped (drop (i + 1) (capped ws)) (drop (i + 1) (set out i 0))) eight l
        ∙ ap (λ (x : List ℕ). take i out ++ (0 ∷ stepped (drop (i + 1) (capped ws)) x)) (drop-set-lt (i + 1) out i 0 (omega arith))
        ∙ ap (λ (x : List ℕ). take i out ++ x) (sym (step_at _ (le-ltb _ _ p))) ∙ left

  pub step_all : 8 ≤ i → out ≡ whole
  unfolding stepped
  step_all l = sym (sym left ∙ rw (take_all i out (omega (arith, eight)), no_more ws i long l) (append-nil out))
