-- After some spans the word has the nodes behind the present one, and what is left of the route meets the rest. Each span leads from the present node to its
-- other end, which is below 64 as both ends are.
use mathlib.Core.Path.{sym, ◌∙◌}
use lib.ListN.{get_or}
use Rattle.book.proofs.Walking.{below_at}
use Rattle.judgement.proofs.MetWords.{walk_next, walk_done, end_low}
use Rattle.judgement.proofs.node.met_on.Goals as goal

pub bounds-left-x : goal.bounds-left-x
bounds-left-x c = below_at 128 c.args.route.now c.loop-x.x-index c.requires.1 c.loop-x-test.true

pub bounds-right-x : goal.bounds-right-x
bounds-right-x c = below_at 128 c.args.route.now c.loop-x.x-index c.requires.1 c.loop-x-test.true

pub loop-x-preserved : goal.loop-x-preserved
loop-x-preserved c =
    let a = c.args in
    let l = c.loop-x in (
      rw c.other_end-p.ensures (end_low c.requires.2 (get_or a.route.now l.x-index 0) l.p),
      rw (c.with-met.ensures, c.other_end-p.ensures) (sym (walk_next a.left.now a.right.now l.met.mask l.p a.route.now l.x-index c.loop-x-test.true) ∙ l.invariant.1),
    )

pub returns : goal.returns
returns c =
    let a = c.args in
    let l = c.loop-x in
    rw c.with.ensures (sym (walk_done a.left.now a.right.now l.met.mask l.p a.route.now l.x-index c.loop-x-test.false) ∙ l.invariant.1)
