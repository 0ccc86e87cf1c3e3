-- The side grows as in `grow`. What it holds so far is in the whole side, so that a node found in it is joined; and when all its nodes are taken it is
-- the whole side, so that a node not found in it is not.
use mathlib.Core.Path.{sym}
use Rattle.book.proofs.Bits.{put_zero}
use Rattle.judgement.proofs.Joins.{in_side}
use Rattle.judgement.proofs.Tests.{told_apart, told_alike}
use Rattle.judgement.proofs.Worklist.{working_start, next_lt, taken_once, working_next, working_end}
use Rattle.judgement.proofs.side.reaches.Goals as goal

pub loop-ends-init : goal.loop-ends-init
loop-ends-init c net up w = rw (c.from-g.ensures, put_zero) (working_start 64 net up _ w.ends c.args.ends.low.0)

pub returns-then-has : goal.returns-then-has
returns-then-has c net up w =
    let g = c.loop-ends in
    sym (in_side net up 64 w.ends _ g.g.side.mask _ c.args.ends.low.0 (g.invariant net up w).growing (rw (← c.has.ensures) c.if-has.true))

pub take-g-requires : goal.take-g-requires
take-g-requires c =
    let some = c.requires in
    next_lt _ _ _ _ (c.loop-ends.invariant _ _ some.led) (told_apart c.ne.ensures c.loop-ends-test.true)

pub loop-ends-smaller : goal.loop-ends-smaller
loop-ends-smaller c =
    let some = c.requires in
    rw c.take-g.ensures (taken_once _ _ _ _ (c.loop-ends.invariant _ _ some.led) (told_apart c.ne.ensures c.loop-ends-test.true))

pub loop-ends-preserved : goal.loop-ends-preserved
loop-ends-preserved c net up w =
    rw c.take-g.ensures (working_next 64 net up _ (c.loop-ends.invariant net up w) (told_apart c.ne.ensures c.loop-ends-test.true) w.leads)

pub returns : goal.returns
returns c net up w =
    rw (c.has-2.ensures, working_end 64 net up _ w.ends c.args.ends.low.0 (c.loop-ends.invariant net up w) (told_alike c.ne.ensures c.loop-ends-test.false))
