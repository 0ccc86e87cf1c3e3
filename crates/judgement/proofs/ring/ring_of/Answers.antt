-- Each test that fails says that there is no ring to merge, and where all are passed the ring is what the trail gathered.
-- The tests are those of the definition, in its order.
use mathlib.Core.Path.{sym, ◌∙◌}
use Rattle.judgement.proofs.Trails.{last_met, all_met, same_piece, no_way, sparing}
use Rattle.judgement.proofs.ring.ring_of.Goals as goal

pub returns-then-ends : goal.returns-then-ends
returns-then-ends c = let e = c.ends-ends.ensures in same_piece _ _ _ _ (sym e.0 ∙ c.if-ends.true ∙ e.1)

pub returns-then-not-has : goal.returns-then-not-has
returns-then-not-has c =
    let e = c.ends-ends.ensures in
    no_way _ _ _ _ (rw (e.0, e.1) at c.if-ends.false) (all_met (rw (e.0, e.1) at c.rounds_to-r.ensures) c.at.ensures (rw e.0 at c.has.ensures) ∙ c.if-not-has.true)

pub returns : goal.returns
returns c =
    let e = c.ends-ends.ensures in
    c.then_some.ensures
    ∙ sparing _ _ _ _ (rw (e.0, e.1) at c.if-ends.false)
    (all_met (rw (e.0, e.1) at c.rounds_to-r.ensures) c.at.ensures (rw e.0 at c.has.ensures) ∙ c.if-not-has.false) c.ring_trail-t.ensures c.is_sparing.ensures
