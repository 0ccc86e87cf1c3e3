-- After k turns the total is the sum of the first k spans' loads above their limits, as the arrays have them.
-- The arrays say of each span what the book says of it, and that sum is at most 1,536, so that none is too large.
use native.Mathlib.Omega.{arith}
use mathlib.Core.Path.{◌≡◌, refl, ap, ◌∙◌}
use Prim.Native.Nat.{◌+◌}
use Rattle.judgement.specs.Judgement.{sum}
use Rattle.judgement.proofs.Sums.{sum_next}
use Rattle.judgement.proofs.Excess.{excess_in, excess_is, excess_low}
use Rattle.judgement.proofs.load.Loaded.excess.Goals as goal
use Rattle.judgement.proofs.load.Loaded.excess.Goals.{After-saturating_sub-total}

-- the total with this span
next : (c : After-saturating_sub-total) → c.loop-k.total + c.saturating_sub-total.result ≡ sum (excess_in c.args.self.now.judgeable.now.book c.args.self.now.loads) (c.loop-k.k + 1)
next c =
    let l = c.loop-k in
    omega (arith, l.invariant, c.from.ensures, c.saturating_sub-total.ensures, sum_next (excess_in c.args.self.now.judgeable.now.book c.args.self.now.loads) l.k)

pub loop-k-init : goal.loop-k-init
unfolding sum
loop-k-init c = refl

pub overflow_add-total : goal.overflow_add-total
overflow_add-total c =
    let k = c.loop-k.k in
    let s = c.args.self.now in
    omega (arith, next c, excess_low s.judgeable.now.book s.loads c.requires s.counted (k + 1) (omega (arith, c.loop-k-test.true)))

pub loop-k-preserved : goal.loop-k-preserved
loop-k-preserved c = next c

pub returns : goal.returns
returns c m is fits =
    let l = c.loop-k in
    let s = c.args.self.now in
    let b = s.judgeable.now.book in
    let e : l.k ≡ b.spans = omega (arith, l.auto.k-end, c.loop-k-test.false) in
    l.invariant ∙ ap (sum (excess_in b s.loads)) e ∙ excess_is b s.loads s.counted m is fits
