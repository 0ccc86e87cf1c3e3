-- Both sums are remainders.
use Rattle.std.proofs.Common.{◌<◌}
use Rattle.hexbooks.proofs.choices.checksum.Given as goal

abbrev pub invariant-loop-x : goal.invariant-loop-x
invariant-loop-x l = (l.sum < 65521) × (l.sums < 65521)
