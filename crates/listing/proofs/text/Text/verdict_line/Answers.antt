-- The word, the three numbers, and then the end of the line.
use mathlib.Core.Path.{sym, ap}
use Rattle.listing.specs.Report.{verdict_line}
use Rattle.listing.proofs.Texts.{adds_then, adds_as}
use Rattle.listing.proofs.text.Text.verdict_line.Goals as goal

pub returns-in-Over : goal.returns-in-Over
returns-in-Over c = adds_as (ap verdict_line (sym c.in-Over.is)) (adds_then c.word.ensures (adds_then c.number.ensures (adds_then c.number-in-Over.ensures (adds_then c.number-in-Over-2.ensures c.end.ensures))))
