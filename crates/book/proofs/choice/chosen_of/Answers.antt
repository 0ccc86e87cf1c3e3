-- Either there is no such choice, which is refused, or the book that comes back is the chosen one.
-- What the struct of the book tells about its choices is what the book says, by the laws of Written.antt.
use native.Mathlib.Omega.{arith}
use mathlib.Core.Path.{◌≡◌, refl, ◌∙◌}
use Rattle.book.specs.Choice.{choices}
use Rattle.book.proofs.Written.{total_is, chosen_is, no_such_choice, such_a_choice}
use Rattle.book.proofs.choice.chosen_of.Goals as goal

pub returns-then-total-n : goal.returns-then-total-n
returns-then-total-n c m e w =
    let t : c.total.result ≡ choices m = c.total.ensures ∙ rw c.of-w.ensures (total_is m e w) in
    rw (no_such_choice m c.args.n (omega (arith, t, c.if-total-n.true)), c.of.ensures) refl

pub returns : goal.returns
returns c m e w =
    let n = c.args.n in
    let t : c.total.result ≡ choices m = c.total.ensures ∙ rw c.of-w.ensures (total_is m e w) in
    rw (such_a_choice m n (omega (arith, t, c.if-total-n.false)), c.chosen.ensures, c.of-2.ensures, c.of-w.ensures, chosen_is m e w n) refl
