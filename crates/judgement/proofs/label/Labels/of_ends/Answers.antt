-- Each end is made its label.
use Rattle.std.proofs.Common.{rules, get_or}
use Rattle.judgement.proofs.Elements.{mapped}
use Rattle.judgement.proofs.label.Labels.of_ends.Goals as goal

pub returns : goal.returns
returns c = mapped _ (λ q. get_or c.args.self.now.of q 0) _ (λ x y q r. search rules) c.map.ensures.items
