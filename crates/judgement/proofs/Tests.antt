-- Tests side by side: a disjunction is true exactly if one of its parts is, and two tests that are true together are one.
-- The sides, the pieces and the ways are all computed by such tests.
use mathlib.Core.Path.{◌≡◌, refl, sym, ap}
use mathlib.Core.Logic.{◌⊎◌, inl, inr}
use mathlib.Core.Bool.{Bool, true, false, not, ◌||◌, false≢true}
use Prim.Native.Nat.{ℕ}
use native.Mathlib.Omega.{arith}
use lib.Dec.{eqb}

pub or_l : {a : Bool} (b : Bool) → a ≡ true → (a || b) ≡ true
or_l b e = ap (λ (q : Bool). q || b) e

pub or_r : (a : Bool) {b : Bool} → b ≡ true → (a || b) ≡ true
or_r true e = refl
or_r false e = e

pub or_inv : (a b : Bool) → (a || b) ≡ true → (a ≡ true) ⊎ (b ≡ true)
or_inv true b e = inl refl
or_inv false b e = inr e

pub bool_iff : (a b : Bool) → (a ≡ true → b ≡ true) → (b ≡ true → a ≡ true) → a ≡ b
bool_iff true b f g = sym (f refl)
bool_iff false true f g = g refl
bool_iff false false f g = refl

-- a test that tells whether P holds: it fails where P does not, and holds where P is not refuted
pub not_when : {P : Type 0} (t : Bool) → (t ≡ true → P) → (P → ⊥) → t ≡ false
not_when true f n = absurd (n (f refl))
not_when false f n = refl

pub when_not_not : {P : Type 0} (t : Bool) → (P → t ≡ true) → ((P → ⊥) → ⊥) → t ≡ true
when_not_not true g n = refl
when_not_not false g n = absurd (n (λ p. false≢true (g p)))

-- what the test `!=` of two numbers tells
module _ {x y : ℕ} {r : Bool} (e : r ≡ not (eqb x y)) where
  pub told_apart : r ≡ true → x ≡ y → ⊥
  told_apart h same = grind arith

  pub told_alike : r ≡ false → x ≡ y
  told_alike h = grind arith

-- it tells as much of what they are equal to
pub test_is : {x y x' y' : ℕ} {t : Bool} → t ≡ not (eqb x y) → x ≡ x' → y ≡ y' → not (eqb x' y') ≡ t
test_is e p q = rw (← p, ← q) (sym e)
