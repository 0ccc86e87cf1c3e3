-- A refusal is told by its number and place, which are those of the reading.
use mathlib.Core.Path.{refl}
use borrow.Author.Rules.{rules}
use Rattle.book.specs.Format.{reading}
use Rattle.book.proofs.Tabled.{refused_number}
use Rattle.listing.specs.Report.{report_of}
use Rattle.listing.proofs.Told.{told_text}
use Rattle.listing.proofs.report.Goals as goal

pub returns : goal.returns
returns c =
    let s = c.args.s.now in
    told_text report_of (reading s) (λ k p. refl) (λ k p. refused_number s) c.reported.ensures (search rules)
