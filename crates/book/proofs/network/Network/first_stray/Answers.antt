-- What is left of the route fails, from the present node on, where the whole fails from its start.
-- Each turn is one step of the walk, and a step that fails ends it.
use borrow.Author.Tests.{eq-eqb, ne_eqb}
use mathlib.Core.Path.{sym, ◌∙◌}
use Rattle.book.proofs.Walking.{route_cons, walk_on, walk_off, hop_low, walk_end, below_at}
use Rattle.book.proofs.network.Network.first_stray.Goals as goal

pub step_over-requires : goal.step_over-requires
step_over-requires c = below_at 128 _ c.loop-j.j c.requires.0 c.loop-j-test.true

pub returns-in_default : goal.returns-in_default
returns-in_default c =
    let l = c.loop-j in
    let s = c.args in (
      sym (l.invariant.2 ∙ rw (route_cons s.route.now l.j c.loop-j-test.true)
          (walk_off _ _ _ _ _ _ c.step_over.ensures _ _ _ _ c.in_default.is)),
      l.auto.j-end,
    )

pub loop-j-preserved : goal.loop-j-preserved
loop-j-preserved c =
    let l = c.loop-j in (
      l.auto.j-end,
      hop_low _ _ _ _ _ _ c.step_over.ensures _ c.args.self.held.left_low c.args.self.held.right_low c.in-Some.is,
      l.invariant.2 ∙ rw (route_cons c.args.route.now l.j c.loop-j-test.true, c.put-met-in-loop-j.ensures)
          (walk_on _ _ _ _ _ _ c.step_over.ensures _ _ _ _ _ c.in-Some.is),
    )

pub returns-then-p-to : goal.returns-then-p-to
returns-then-p-to c = let l = c.loop-j in (sym (l.invariant.2 ∙ walk_end _ _ _ _ _ _ l.j _ c.loop-j-test.false ∙ rw (eq-eqb _ _ c.if-p-to.true)), tt)

pub returns-else-p-to : goal.returns-else-p-to
returns-else-p-to c = let l = c.loop-j in (sym (l.invariant.2 ∙ walk_end _ _ _ _ _ _ l.j _ c.loop-j-test.false ∙ rw (ne_eqb _ _ c.if-p-to.false)), l.invariant.0)
