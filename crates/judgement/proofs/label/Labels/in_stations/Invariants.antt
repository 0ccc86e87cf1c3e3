-- After i turns the set holds the stations below i whose labels are in the side.
use Rattle.std.proofs.Common.{◌≡◌, ◌&&◌, get_or}
use Rattle.book.specs.Bits.{has}
use Rattle.judgement.specs.Pieces.{labels}
use Rattle.judgement.proofs.label.Labels.in_stations.Given as goal

abbrev pub invariant-loop-i : goal.invariant-loop-i
invariant-loop-i l = l.set.mask ≡ labels (λ j. has l.stations.mask j && has l.side.mask (get_or l.fn.self.of j 0)) (λ j. j) l.i
