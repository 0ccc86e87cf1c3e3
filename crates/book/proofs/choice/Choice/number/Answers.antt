-- The sum so far and the sum of the digits that are left make the number, which is small; and the weight times the sizes that are left is their product.
-- So neither the sum nor the weight leaves 32 bits.
use mathlib.Core.Path.{◌≡◌, sym, ap, ◌∙◌}
use mathlib.Core.Logic.{◌⊎◌, inl, inr}
use Prim.Native.Nat.{ℕ, suc, min, ◌+◌, ◌*◌, ◌≤◌, ◌<◌, ◌^◌}
use mir.Syntax.{w8}
use mir.Val.{Fits}
use lib.ListN.{length, get_or}
use native.Mathlib.Omega.{arith}
use native.Mathlib.Nat.{mul-le-mul_left}
use borrow.Author.Rules.{rules}
use Rattle.book.proofs.Digits.{weighed_next, product_next, weighed_end, number_most, product_some, product_most}
use Rattle.book.proofs.choice.Choice.number.Goals as goal
use Rattle.book.proofs.choice.Choice.number.Goals.{In-Some}

-- the digit times its weight, with the sum so far, is no more than the number
small : (c : In-Some) → c.loop-digit.n + c.in-Some.digit.now * c.loop-digit.weight < 2 ^ 32
small c =
    let l = c.loop-digit in
    let now = c.in-Some.ensures.steps in
    let bytes : (i : _) → get_or c.args.self.digits i 0 ≤ 255 = λ i. (let z : Fits w8 (get_or c.args.self.digits i 0) = search rules in omega arith) in
    let all = number_most c.args.w.more c.args.self.digits (search rules) bytes in
    omega (arith, all, l.invariant.sum, weighed_next l.weight now.0 now.1)

pub overflow_mul-n : goal.overflow_mul-n
overflow_mul-n c = omega (arith, small (goal.at.overflow_mul-n c).In-Some)

pub overflow_add-n : goal.overflow_add-n
overflow_add-n c = omega (arith, small (goal.at.overflow_add-n c).In-Some)

pub overflow_mul-weight : goal.overflow_mul-weight
overflow_mul-weight c =
    let l = c.loop-digit in
    let now = c.in-Some.ensures.steps in
    let long : length c.args.w.more ≡ 8 = search rules in
    let most = product_most c.args.w.more in
    rw c.size-weight.ensures
    (omega (arith, most, ap (λ (n : ℕ). 8 ^ n) long, l.invariant.weights, product_next l.weight now.1, mul-le-mul_left (l.weight * suc (min c.in-Some.more.now 7)) (product_some c.next.new.self.b.rest.now)))

pub loop-digit-preserved : goal.loop-digit-preserved
loop-digit-preserved c =
    let l = c.loop-digit in
    let now = c.in-Some.ensures.steps in
    rw c.size-weight.ensures
    record { sum = omega (arith, l.invariant.sum, weighed_next l.weight now.0 now.1); weights = sym (product_next l.weight now.1) ∙ l.invariant.weights }

pub returns : goal.returns
returns c =
    let l = c.loop-digit in
    let none : (length l.digit-iterator.a.rest.now ≡ 0) ⊎ (length l.digit-iterator.b.rest.now ≡ 0) = elim c.in-None.ensures.steps [ inl e ↦ inl e.1.0 | inr e ↦ inr e.1.0 ] in
    omega (arith, l.invariant.sum, weighed_end l.weight _ _ none)
