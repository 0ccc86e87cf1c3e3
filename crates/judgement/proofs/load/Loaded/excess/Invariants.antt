-- After k turns the total is the sum of the first k spans' loads above their limits, as the arrays have them.
-- The arrays say of each span what the book says of it, and that sum is at most 1,536, so that none is too large.
use mathlib.Core.Path.{◌≡◌}
use Rattle.judgement.specs.Judgement.{sum}
use Rattle.judgement.proofs.Excess.{excess_in}
use Rattle.judgement.proofs.load.Loaded.excess.Given as goal

abbrev pub invariant-loop-k : goal.invariant-loop-k
invariant-loop-k l = l.total ≡ sum (excess_in l.self.judgeable.now.book l.self.loads) l.k
