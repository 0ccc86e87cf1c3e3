-- After k turns each load is the number of times that its span stands in the first k rows.
-- No row is longer than 16 places, so no load is too large for its place.
use Prim.Native.Nat.{◌*◌}
use Rattle.book.proofs.Routes.{lent}
use Rattle.judgement.proofs.Usable.{usable_lightpaths}
use Rattle.judgement.proofs.Loads.{tallied_start, tallied_room, tallied_next}
use Rattle.judgement.proofs.load.Loaded.of.Goals as goal

pub loop-k-init : goal.loop-k-init
loop-k-init c = tallied_start _

pub add_route-requires : goal.add_route-requires
add_route-requires c =
    let b = c.args.b.now in
    let l = c.loop-k in
    rw (lent b.book.route (16 * l.k) c.min-len.result, c.min-len.ensures) (tallied_room _ l.invariant (usable_lightpaths b.usable))

pub loop-k-preserved : goal.loop-k-preserved
loop-k-preserved c =
    let l = c.loop-k in
    tallied_next _ l.invariant c.loop-k-test.true (rw (lent c.args.b.now.book.route (16 * l.k) c.min-len.result, c.min-len.ensures) at c.add_route.ensures)
