-- The array holds true for every lightpath that there is, so the side by the array is the side with all of them up.
use mathlib.Core.Path.{refl, ◌∙◌}
use mathlib.Core.Bool.{true, false}
use native.Mathlib.Omega.{arith}
use lib.ListN.{replicate, get_or-replicate}
use Rattle.judgement.specs.Inside.{up_of}
use Rattle.judgement.specs.Nets.{net_in}
use Rattle.judgement.proofs.Alike.{side_alike}
use Rattle.judgement.proofs.net.Net.side_whole.Goals as goal

pub returns : goal.returns
returns c =
    let net = net_in c.args.self.now in
    let few = c.args.self.now.fits.few in
    c.side_of.ensures
    ∙ side_alike net net (up_of (replicate 96 true)) (λ k. true) (record {
      count = refl;
      from = λ k l. refl;
      to = λ k l. refl;
      state = λ k l. get_or-replicate 96 k true false (omega (arith, l, few));
    }) 64 c.args.start
