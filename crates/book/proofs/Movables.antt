-- Gathering the movable lightpaths: one alternative more, by each of its three cases, and the count of them stays within eight.
-- So the loop over the alternatives, and the function that takes one of them, cite the same equations.
use Prim.Native.Nat.{ℕ, zero, suc, ◌+◌, ◌≤◌, ◌<◌}
use mathlib.Core.Path.{◌≡◌, refl}
use mathlib.Core.List.{List, [], ◌∷◌}
use mathlib.Core.Bool.{Bool, true, false, cond}
use native.Mathlib.Omega.{arith}
use native.Mathlib.Numerals.{add-one}
use lib.ListN.{length, take}
use lib.Dec.{ltb}
use borrow.Author.Tests.{lt-ltb, ltb-true}
use Rattle.book.specs.Moving.{last_is, with_more, with_new, with_one, gathered}
use Rattle.book.specs.declared.choice.Movables.{Movables}

module _ (w : Movables) (k : ℕ) where
  pub with_last : last_is w k ≡ true → with_one w k ≡ with_more w
  unfolding with_one
  with_last e = rw e

  pub with_first : last_is w k ≡ false → w.count < 8 → with_one w k ≡ with_new w k
  unfolding with_one
  with_first e l = rw (e, lt-ltb w.count 8 l)

  pub with_few : w.count ≤ 8 → (with_one w k).count ≤ 8
  unfolding with_one
  with_few l = go (last_is w k) (ltb w.count 8) refl
    where
      go : (s t : Bool) → ltb w.count 8 ≡ t → (cond s (with_more w) (cond t (with_new w k) w)).count ≤ 8
      go true t e = l
      go false true e = omega (arith, ltb-true w.count 8 e)
      go false false e = l

-- gathering the first n of a list: the next of them is gathered, or there is none
pub gathered_next : (w : Movables) (n m : ℕ) {k : ℕ} {l t : List ℕ} → l ≡ k ∷ t → m + 1 ≡ n → gathered w (take n l) ≡ gathered (with_one w k) (take m t)
unfolding gathered
gathered_next w n m e f = rw (e, ← f, add-one m) refl

pub gathered_all : (w : Movables) (n : ℕ) (l : List ℕ) → (0 < n → length l ≡ 0) → gathered w (take n l) ≡ w
unfolding gathered
gathered_all w zero l none = refl
gathered_all w (suc n) [] none = refl
gathered_all w (suc n) (k ∷ l) none = let e : length (k ∷ l) ≡ 0 = none (omega arith) in absurd (omega arith)
