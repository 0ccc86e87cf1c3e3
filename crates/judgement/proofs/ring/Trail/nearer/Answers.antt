-- Where the way is in the set it stays; else the lightpath that is found is one of the network, and is put to the trail.
use mathlib.Core.Path.{sym, ◌∙◌}
use native.Mathlib.Omega.{arith}
use Rattle.judgement.specs.Merge.{nearer_by}
use Rattle.judgement.proofs.Finds.{first_made, found_below}
use Rattle.judgement.proofs.ring.Trail.nearer.Goals as goal

pub returns-then-has : goal.returns-then-has
unfolding nearer_by
returns-then-has c = rw (sym c.has.ensures ∙ c.if-has.true)

pub by-requires : goal.by-requires
by-requires c = omega (arith, found_below _ _ (sym c.in-Some.is ∙ c.leading.ensures), c.args.net.now.fits.few)

pub returns-in-Some : goal.returns-in-Some
unfolding nearer_by
returns-in-Some c = rw (sym c.has.ensures ∙ c.if-has.false) (c.by.ensures ∙ first_made _ _ _ _ (sym c.in-Some.is ∙ c.leading.ensures))

pub returns-in-None : goal.returns-in-None
unfolding nearer_by
returns-in-None c = rw (sym c.has.ensures ∙ c.if-has.false) (first_made _ _ _ _ (sym c.in-None.is ∙ c.leading.ensures))
