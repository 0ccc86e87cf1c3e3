-- The digits found and the digits of what is left of the number make the digits of the number.
-- A remainder by a size is below 8, so it is a byte.
use mathlib.Core.Path.{ap, ◌∙◌}
use lib.ListN.{length-set}
use mathlib.Core.List.{List}
use Prim.Native.Nat.{ℕ, ◌%◌}
use borrow.Author.Rules.{rules}
use Rattle.book.proofs.Digits.{split_next, split_all}
use Rattle.book.proofs.choice.Choice.of.Goals as goal

pub loop-i-preserved : goal.loop-i-preserved
loop-i-preserved c =
    let l = c.loop-i in
    record {
      eight = length-set l.digits l.i (l.rest % c.size-z.result) ∙ l.invariant.eight;
      left = split_next c.args.w.more l.digits l.i l.rest (search rules) l.invariant.eight l.invariant.left c.loop-i-test.true c.size-z.ensures;
    }

pub returns : goal.returns
returns c =
    let l = c.loop-i in
    ap (λ (x : List ℕ). record { digits = x }) (split_all c.args.w.more l.digits l.i l.rest (search rules) l.invariant.eight l.invariant.left c.loop-i-test.false)
