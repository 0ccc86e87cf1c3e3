-- The side holds only what is joined to the start, and what its nodes lead to once they are taken; each turn takes a node that was not taken before.
-- When all are taken it is the side of the start: `working_end`.
use Rattle.book.proofs.Bits.{put_zero}
use Rattle.judgement.proofs.Tests.{told_apart, told_alike}
use Rattle.judgement.proofs.Worklist.{working_start, next_lt, taken_once, working_next, working_end}
use Rattle.judgement.proofs.side.grow.Goals as goal

pub loop-g-init : goal.loop-g-init
loop-g-init c net up w = rw (c.from-g.ensures, put_zero) (working_start 64 net up _ w.ends c.requires.0)

pub take-g-requires : goal.take-g-requires
take-g-requires c =
    let some = c.requires.1 in
    next_lt _ _ _ _ (c.loop-g.invariant _ _ some.led) (told_apart c.ne.ensures c.loop-g-test.true)

pub loop-g-smaller : goal.loop-g-smaller
loop-g-smaller c =
    let some = c.requires.1 in
    rw c.take-g.ensures (taken_once _ _ _ _ (c.loop-g.invariant _ _ some.led) (told_apart c.ne.ensures c.loop-g-test.true))

pub loop-g-preserved : goal.loop-g-preserved
loop-g-preserved c net up w =
    rw c.take-g.ensures (working_next 64 net up _ (c.loop-g.invariant net up w) (told_apart c.ne.ensures c.loop-g-test.true) w.leads)

pub returns : goal.returns
returns c net up w = working_end 64 net up _ w.ends c.requires.0 (c.loop-g.invariant net up w) (told_alike c.ne.ensures c.loop-g-test.false)
