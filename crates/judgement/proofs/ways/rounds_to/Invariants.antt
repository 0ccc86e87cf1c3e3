-- The array holds the rounds up to the last, and the set is the last one. No later round tells more of x once one meets it or adds nothing.
use mathlib.Core.Path.{◌≡◌}
use Prim.Native.Nat.{◌+◌}
use Rattle.judgement.specs.Nets.{net_in}
use Rattle.judgement.specs.Merge.{but}
use Rattle.judgement.proofs.Trails.{Rounding}
use Rattle.judgement.proofs.ways.rounds_to.Given as goal

abbrev pub invariant-loop-j : goal.invariant-loop-j
invariant-loop-j l = (l.j ≡ l.last + 1) × Rounding (net_in l.net) (but l.skip) l.ends.to l.ends.from l.sets l.last l.side.mask
