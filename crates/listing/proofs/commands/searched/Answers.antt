-- What was found in the book that was read, from no text on.
use mathlib.Core.Path.{refl, ap}
use mathlib.Core.List.{[], ◌++◌}
use native.Mathlib.Omega.{arith}
use Rattle.std.specs.Prelude.{Ok}
use Rattle.book.proofs.Stages.{all_bytes}
use Rattle.book.proofs.Written.{reply_read}
use Rattle.search.specs.declared.Finding.{Finding}
use Rattle.search.specs.Answers.{searched_of}
use Rattle.listing.specs.Report.{finding_line, moves_of}
use Rattle.listing.proofs.Texts.{adds_then, adds_as}
use Rattle.listing.proofs.Told.{answered}
use Rattle.listing.proofs.commands.searched.Goals as goal

pub returns : goal.returns
returns c =
    let s = c.args.s.now in
    let g = reply_read s (all_bytes s (λ i. omega (arith, c.type_inv.s i))) c.in_ok-b.ensures in
    let f = answered (λ r. searched_of r c.args.limit) g.reads refl c.in_ok-finding.ensures in
    let found = adds_as (ap (λ (x : Finding). finding_line x ++ moves_of g.book x) f) (c.finding_lines.ensures g.book g.is.held g.is.fits) in
    rw g.reads (ap Ok ((adds_then found c.end_line.ensures).shows [] c.none.ensures))
