-- After n trials the choice at hand has the number n, and what is found is what is found among the choices left (Trying.antt).
-- The number of trials is below the limit and the number of choices, so that counting never leaves 32 bits.
use mathlib.Core.Path.{sym, ◌∙◌}
use native.Mathlib.Omega.{arith}
use Rattle.search.proofs.Trying.{trying_start, trying_next, trying_found, trying_none, trying_more}
use Rattle.search.proofs.find.Goals as goal

pub loop-n-init : goal.loop-n-init
loop-n-init c =
    trying_start (record { movables = c.of-w.ensures; all = c.total-total.ensures; lesser = c.min-end.ensures }) c.of-c.ensures

pub returns-then-acceptable : goal.returns-then-acceptable
returns-then-acceptable c m held fits =
    trying_found c.loop-n.invariant m held fits (omega (arith, c.loop-n-test.true)) (sym c.acceptable.ensures ∙ c.if-acceptable.true)

pub loop-n-preserved : goal.loop-n-preserved
loop-n-preserved c =
    let missed = sym c.acceptable.ensures ∙ c.if-acceptable.false in
    rw c.next-c.ensures (trying_next c.loop-n.invariant (omega (arith, c.loop-n-test.true)) missed)

pub returns-then-total-limit : goal.returns-then-total-limit
returns-then-total-limit c m held fits =
    trying_none c.loop-n.invariant m held fits (omega (arith, c.loop-n-test.false)) (omega (arith, c.if-total-limit.true))

pub returns-else-total-limit : goal.returns-else-total-limit
returns-else-total-limit c m held fits =
    trying_more c.loop-n.invariant m held fits (omega (arith, c.loop-n-test.false)) (omega (arith, c.if-total-limit.false))
