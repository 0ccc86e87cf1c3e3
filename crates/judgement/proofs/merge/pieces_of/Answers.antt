-- At each turn the pieces that the definition ends with are those that it makes of the present ones, since the ring that is found is the one that it takes.
-- The sum of the labels gets less with each merge, so the loop ends.
use mathlib.Core.Path.{refl}
use native.Mathlib.Omega.{arith}
use Prim.Native.Nat.{◌≤◌}
use Rattle.judgement.proofs.Engine.{going_start, going_next, going_done, going_room}
use Rattle.judgement.proofs.merge.pieces_of.Goals as goal
use Rattle.judgement.proofs.merge.pieces_of.Goals.{At-loop-ring}

pub loop-ring-init : goal.loop-ring-init
loop-ring-init c m e good = going_start m good c.singles-labels.ensures

-- the sum of the labels leaves room for one merge more
room : (l : At-loop-ring) → l.loop-ring.merges ≤ 4032
room l = let h = l.requires in going_room h.book h.fits (l.loop-ring.invariant h.book h.is h.fits)

pub loop-ring-preserved : goal.loop-ring-preserved
loop-ring-preserved c m e good =
    going_next m good e (c.loop-ring.invariant m e good) c.net-net.ensures c.over.ensures c.first_ring.ensures c.in-Some.is c.joined-labels.ensures

pub returns : goal.returns
returns c m e good =
    going_done m good e (c.loop-ring.invariant m e good) c.net-net.ensures c.over.ensures c.first_ring.ensures c.in_default.is c.loop-ring.labels refl
