-- After some places of the route each span has one more for each of them at which it stands.
-- No load was more than 1,536 and the route has at most 16 places, so no sum is too large.
use lib.ListN.{take}
use Rattle.judgement.specs.Holding.{Counted}
use Rattle.judgement.proofs.load.add_route.Given as goal

abbrev pub invariant-loop-span : goal.invariant-loop-span
invariant-loop-span l = Counted l.initial.loads (take l.span-index l.route) l.loads
