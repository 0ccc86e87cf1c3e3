-- After i turns the set holds the labels of the stations below i.
use Rattle.std.proofs.Common.{◌≡◌, get_or}
use Rattle.book.specs.Bits.{has}
use Rattle.judgement.specs.Pieces.{labels}
use Rattle.judgement.proofs.label.Labels.of_stations.Given as goal

abbrev pub invariant-loop-i : goal.invariant-loop-i
invariant-loop-i l = l.set.mask ≡ labels (has l.stations.mask) (λ j. get_or l.fn.self.of j 0) l.i
