-- After some places of the route each span has one more for each of them at which it stands.
-- No load was more than 1,536 and the route has at most 16 places, so no sum is too large.
use native.Mathlib.Omega.{arith}
use Prim.Native.Nat.{◌+◌}
use mathlib.Core.Path.{sym, subst}
use lib.ListN.{get_or, take, length-take}
use Rattle.judgement.specs.Holding.{Counted}
use Rattle.book.proofs.Once.{count_most}
use Rattle.judgement.proofs.Loads.{counted_start, counted_next, counted_past}
use Rattle.judgement.proofs.load.add_route.Goals as goal
use Rattle.judgement.proofs.load.add_route.Goals.{then-x-lt128, else-x-lt128}

pub loop-span-init : goal.loop-span-init
loop-span-init c = counted_start _ c.args.route.now c.requires.long

pub overflow_add-loads : goal.overflow_add-loads
overflow_add-loads c =
    let r = c.args.route.now in
    let l = c.loop-span in
    let x = get_or r l.span-index 0 in
    omega (arith, l.invariant.each x c.if-x-lt128.true, c.requires.few x, count_most x (take l.span-index r), length-take l.span-index r)

pub loop-span-preserved : goal.loop-span-preserved
loop-span-preserved c =
    let r = c.args.route.now in
    let l = c.loop-span in
    let t = c.loop-span-test.true in
    let counts = Counted c.args.loads.now (take (l.span-index + 1) r) in
    elim c.if-x-lt128.branch [ then-x-lt128 w ↦ subst counts (sym w.loads-is) (counted_next _ r t l.invariant w.if-x-lt128.true) | else-x-lt128 w ↦ subst counts (sym w.loads-is) (counted_past _ r t l.invariant w.if-x-lt128.false) ]
