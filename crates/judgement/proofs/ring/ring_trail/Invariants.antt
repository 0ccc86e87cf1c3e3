-- The trail starts with lightpath k, which leads from its "to" to its "from". At each turn the way comes one round nearer.
-- What is left of it gathers the rest of the ring: nothing at the end.
use Rattle.judgement.specs.Nets.{net_in}
use Rattle.judgement.proofs.Trails.{Trailing}
use Rattle.judgement.proofs.ring.ring_trail.Given as goal

abbrev pub invariant-loop-left : goal.invariant-loop-left
invariant-loop-left l = Trailing (net_in l.net) l.words.low.now l.words.high.now l.k l.r.last l.left l.t
