-- The text has the lines of the digits so far more. The arrays hold the movable lightpaths of the book and the digits of the choice.
use mathlib.Core.Path.{ap, ◌∙◌}
use native.Mathlib.Omega.{arith}
use Rattle.book.specs.declared.Book.{Book}
use Rattle.book.specs.declared.choice.Movables.{Movables}
use Rattle.book.specs.declared.choice.Choice.{Choice}
use Rattle.book.specs.Moving.{movables_in, choice_in}
use Rattle.listing.specs.Report.{move_lines}
use Rattle.listing.proofs.Texts.{adds_none, adds_then, adds_as}
use Rattle.listing.proofs.Moves.{moves_none, moves_next, moves_held}
use Rattle.listing.proofs.text.Text.move_lines.Goals as goal

pub loop-i-init : goal.loop-i-init
loop-i-init c = adds_as (moves_none _ _) adds_none

pub loop-i-preserved : goal.loop-i-preserved
loop-i-preserved c = adds_as (moves_next _ _ c.loop-i.i) (adds_then c.loop-i.invariant c.move_line-t.ensures)

pub returns : goal.returns
returns c = λ m e fits.
    let w = c.of-w.result in
    let a = c.args in
    adds_as (
    ap (move_lines w.lightpath c.of-c.result.digits) (omega (arith, c.loop-i.auto.i-end, c.loop-i-test.false))
    ∙ ap (λ (x : Choice). move_lines w.lightpath x.digits 8) c.of-c.ensures
    ∙ ap (λ (x : Movables). move_lines x.lightpath (choice_in x a.n).digits 8) c.of-w.ensures
    ∙ ap (λ (x : Book). move_lines (movables_in x).lightpath (choice_in (movables_in x) a.n).digits 8) e
    ∙ moves_held m fits a.n
    ) c.loop-i.invariant
