-- After some spans the word has the nodes behind the present one, and what is left of the route meets the rest. Each span leads from the present node to its
-- other end, which is below 64 as both ends are.
use Prim.Native.Nat.{◌<◌}
use mathlib.Core.Path.{◌≡◌}
use lib.ListN.{drop}
use Rattle.judgement.specs.Closing.{met_in}
use Rattle.judgement.proofs.node.met_on.Given as goal

abbrev pub invariant-loop-x : goal.invariant-loop-x
invariant-loop-x l = (l.p < 64) × (met_in l.left l.right l.met.mask l.p (drop l.x-index l.route) ≡ met_in l.left l.right 0 l.from l.route)
