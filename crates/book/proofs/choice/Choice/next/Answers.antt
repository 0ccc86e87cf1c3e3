-- The digits before i have gone back to 0, and stepping those from i on gives the whole.
-- The first digit with room ends the loop; if none has, all are 0.
use mathlib.Core.Path.{ap, ◌∙◌}
use lib.ListN.{length-set}
use mathlib.Core.List.{List}
use Prim.Native.Nat.{ℕ}
use borrow.Author.Rules.{rules}
use Rattle.book.proofs.Digits.{step_up, step_back, step_all}
use Rattle.book.proofs.choice.Choice.next.Goals as goal

pub returns-then-up-size : goal.returns-then-up-size
returns-then-up-size c =
    let l = c.loop-i in
    ap (λ (x : List ℕ). record { digits = x }) (step_up c.args.w.more l.c.digits l.i (search rules) l.invariant.eight l.invariant.left c.loop-i-test.true (rw c.size.ensures at c.if-up-size.true))

pub loop-i-preserved : goal.loop-i-preserved
loop-i-preserved c =
    let l = c.loop-i in
    record { eight = length-set l.c.digits l.i 0 ∙ l.invariant.eight; left = step_back c.args.w.more l.c.digits l.i (search rules) l.invariant.eight l.invariant.left c.loop-i-test.true (rw c.size.ensures at c.if-up-size.false) }

pub returns : goal.returns
returns c =
    let l = c.loop-i in
    ap (λ (x : List ℕ). record { digits = x }) (step_all c.args.w.more l.c.digits l.i (search rules) l.invariant.eight l.invariant.left c.loop-i-test.false)
