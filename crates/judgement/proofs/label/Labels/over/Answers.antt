-- Each label is that of a node, so each end is.
use Rattle.judgement.proofs.Elements.{table_low}
use Rattle.judgement.proofs.label.Labels.over.Goals as goal

pub invariant_of-result : goal.invariant_of-result
invariant_of-result c = record {
  fits = record {
    few = c.args.net.now.fits.few;
    from_low = table_low c.of_ends.ensures (λ k l. c.args.self.now.low _);
    to_low = table_low c.of_ends-2.ensures (λ k l. c.args.self.now.low _);
  };
}
