-- The number at each place is that of the place.
use Rattle.std.proofs.Common.{rules}
use Rattle.judgement.specs.Merge.{Table}
use Rattle.judgement.proofs.Elements.{table_low}
use Rattle.judgement.proofs.label.Labels.singles.Goals as goal
use Rattle.judgement.proofs.label.Labels.singles.Goals.{After-from_fn}

is : (c : After-from_fn) → Table 64 (λ i. i) 64 c.from_fn.result
is c = record { long = c.from_fn.ensures.items.long; each = λ i l. let h = c.from_fn.ensures.items.at i 0 l in search rules }

pub invariant_of-result : goal.invariant_of-result
invariant_of-result c = record { low = table_low (is c) (λ i l. l) }

pub returns : goal.returns
returns c = is (goal.at.returns c).After-from_fn
