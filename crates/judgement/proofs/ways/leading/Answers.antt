-- The search finds the first number that passes.
use Rattle.std.proofs.Common.{rules, ◌≡◌, true, false}
use Rattle.std.proofs.lemmas.Iterator.{first_from_Range}
use Rattle.judgement.specs.Nets.{net_in}
use Rattle.judgement.specs.Ways.{leads}
use Rattle.judgement.specs.Merge.{but}
use Rattle.judgement.proofs.Finds.{found_first}
use Rattle.judgement.proofs.ways.leading.Goals as goal

pub returns : goal.returns
unfolding leads
returns c =
    let t = leads (net_in c.args.net.now) (but c.args.skip) c.args.x c.args.set.mask in
    found_first t _ _ (first_from_Range _ _ _ _ (λ x. t x ≡ true) (λ x. t x ≡ false) c.find.ensures.ran (λ x q r. search rules) (λ x q r. search rules))
