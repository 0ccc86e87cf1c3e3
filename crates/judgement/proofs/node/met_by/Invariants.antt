-- After k turns the first k words have the nodes that the first k lightpaths meet. The route of a lightpath stands in its row of 16 places, and holds
-- numbers of spans only.
use Rattle.judgement.specs.Closing.{MetBy}
use Rattle.judgement.proofs.node.met_by.Given as goal

abbrev pub invariant-loop-k : goal.invariant-loop-k
invariant-loop-k l = MetBy l.b l.k l.words
