-- After k turns each load is the number of times that its span stands in the first k rows.
-- No row is longer than 16 places, so no load is too large for its place.
use Rattle.judgement.proofs.Loads.{Tallied}
use Rattle.judgement.proofs.load.Loaded.of.Given as goal

abbrev pub invariant-loop-k : goal.invariant-loop-k
invariant-loop-k l = Tallied l.b.book l.k l.loads
