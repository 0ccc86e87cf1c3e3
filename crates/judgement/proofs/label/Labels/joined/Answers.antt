-- Each label is that of a node, and is made the lowest of the ring where the ring has it.
use Rattle.std.proofs.Common.{rules, get_or}
use Rattle.std.specs.Int.Count.{count_trailing_zeros}
use Rattle.judgement.specs.Merge.{Table, relabelled}
use Rattle.judgement.proofs.Elements.{mapped, table_low}
use Rattle.judgement.proofs.LabelArrays.{relabelled_low}
use Rattle.judgement.proofs.label.Labels.joined.Goals as goal
use Rattle.judgement.proofs.label.Labels.joined.Goals.{After-map}

is : (c : After-map) → Table 64 (λ i. relabelled c.args.ring.mask (count_trailing_zeros 64 c.args.ring.mask) (get_or c.args.self.now.of i 0)) 64 c.map.result
is c =
    mapped _ (relabelled c.args.ring.mask (count_trailing_zeros 64 c.args.ring.mask)) _
    (λ x y q r. let e = c.lowest-lowest.ensures in search (rules, e)) c.map.ensures.items

pub invariant_of-result : goal.invariant_of-result
invariant_of-result c = record { low = table_low (is c) (λ i l. relabelled_low c.args.ring.mask _ (c.args.self.now.low i)) }

pub returns : goal.returns
returns c = is (goal.at.returns c).After-map
