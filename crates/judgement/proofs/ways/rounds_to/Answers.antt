-- The array holds the rounds up to the last, and the set is the last one. No later round tells more of x once one meets it or adds nothing.
use mathlib.Core.Path.{refl, sym, ◌∙◌}
use native.Mathlib.Omega.{arith}
use Prim.Native.Nat.{ℕ}
use lib.ListN.{replicate, length-replicate}
use borrow.Author.Tests.{eqb-true}
use Rattle.judgement.proofs.Trails.{rounding_start, rounding_next, rounding_met, rounding_same, rounding_all}
use Rattle.judgement.proofs.ways.rounds_to.Goals as goal

pub loop-j-init : goal.loop-j-init
loop-j-init c = (refl, rounding_start _ _ _ _ (replicate 65 0) (length-replicate {A = ℕ} 65 0) c.with-side.ensures)

pub loop-j-preserved : goal.loop-j-preserved
loop-j-preserved c =
    let now = c.loop-j.invariant in
    (refl, rw now.0 (rounding_next _ _ _ _ now.1 (omega arith) c.widened-next.ensures))

pub returns-then-has : goal.returns-then-has
returns-then-has c = rounding_met _ _ _ _ c.loop-j.invariant.1 (sym c.has.ensures ∙ c.if-has.true)

pub returns-then-eq : goal.returns-then-eq
returns-then-eq c =
    rounding_same _ _ _ _ c.loop-j.invariant.1 (sym c.widened-next.ensures ∙ eqb-true _ _ (sym c.if-eq.ensures))
