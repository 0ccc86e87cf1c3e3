-- The text has the lines of the digits so far more.
use Rattle.listing.specs.Report.{move_lines}
use Rattle.listing.specs.Inside.{Adds}
use Rattle.listing.proofs.text.Text.move_lines.Given as goal

abbrev pub invariant-loop-i : goal.invariant-loop-i
invariant-loop-i l = Adds l.initial.t (move_lines l.w.lightpath l.d-items l.i) l.t
