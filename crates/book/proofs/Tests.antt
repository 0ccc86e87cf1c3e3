-- Tests in a row: a conjunction is true exactly if both its parts are.
use mathlib.Core.Path.{◌≡◌, refl, ap₂}
use mathlib.Core.Bool.{Bool, true, false, ◌&&◌, false≢true}

pub and_inv : {a b : Bool} → (a && b) ≡ true → (a ≡ true) × (b ≡ true)
and_inv {a = true} e = (refl, e)
and_inv {a = false} e = (e, absurd (false≢true e))

pub and_both : {a b : Bool} → a ≡ true → b ≡ true → (a && b) ≡ true
and_both {a} {b} p q = ap₂ (λ (x y : Bool). x && y) p q
