-- Moving the movable lightpaths that are left, in the rows as they now are, gives the same as moving all from the start; and nothing else changes.
-- Each has at most 255 alternatives, which bounds where those of the next begin.
use mathlib.Core.Logic.{inl, inr}
use Prim.Native.Nat.{◌*◌}
use mir.Syntax.{w8}
use mir.Val.{Fits}
use native.Mathlib.Omega.{arith}
use borrow.Author.Rules.{rules}
use Rattle.book.proofs.Moved.{moving_next, moving_end}
use Rattle.book.proofs.Routes.{lent}
use Rattle.book.proofs.choice.chosen.Goals as goal

-- the row that is lent to the copy is the sixteen places of row `from`
pub loop-k-preserved : goal.loop-k-preserved
loop-k-preserved c =
    let now = c.in-Some.ensures.steps in
    let byte : Fits w8 c.in-Some.more.now = search rules in
    rw (c.put.ensures, lent c.args.b.route (16 * c.row_of-from.result) 16, c.row_of-from.ensures, c.min-to.ensures)
    (moving_next c.args.b c.args.w c.args.c c.loop-k.invariant now.0.0.0 now.0.0.1 now.0.1 now.1 (omega arith))

pub returns : goal.returns
returns c = moving_end c.args.b c.args.w c.args.c c.loop-k.invariant (λ some. elim (c.in-None.ensures.steps some) [
  | inl e ↦ elim e.1 [ inl a ↦ a.1.0 | inr a ↦ omega (arith, a.1.0, c.loop-k.invariant.of_ws) ]
  | inr e ↦ omega (arith, e.1.0, c.loop-k.invariant.of_ds)
])
