-- After k turns the set has what is one of the lightpaths below k away from the old one.
use Rattle.std.proofs.Common.{◌≡◌}
use Rattle.judgement.specs.Ways.{widen}
use Rattle.judgement.specs.Nets.{net_in}
use Rattle.judgement.specs.Merge.{but}
use Rattle.judgement.proofs.ways.widened.Given as goal

abbrev pub invariant-loop-k : goal.invariant-loop-k
invariant-loop-k l = l.all.mask ≡ widen (net_in l.net) (but l.skip) l.old.mask l.k
