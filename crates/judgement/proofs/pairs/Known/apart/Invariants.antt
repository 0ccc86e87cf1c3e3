-- After k turns the total counts the first k lightpaths. It counts each at most once, so that no sum is too large.
use mathlib.Core.Path.{◌≡◌}
use Rattle.judgement.specs.Judgement.{sum, one}
use Rattle.judgement.specs.Inside.{up_of, parted_by}
use Rattle.judgement.proofs.pairs.Known.apart.Given as goal

abbrev pub invariant-loop-k : goal.invariant-loop-k
invariant-loop-k l = l.total ≡ sum (λ j. one (parted_by l.self.net.now.n l.self.net.now.from l.self.net.now.to (up_of l.self.up.now) j)) l.k
