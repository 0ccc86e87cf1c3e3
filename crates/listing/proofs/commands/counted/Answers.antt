-- The counts of the book that was read, and how many choices it has, from no text on.
use mathlib.Core.Path.{ap}
use mathlib.Core.List.{[]}
use native.Mathlib.Omega.{arith}
use Rattle.std.specs.Prelude.{Ok}
use Rattle.book.proofs.Stages.{all_bytes}
use Rattle.book.proofs.Written.{reply_read}
use Rattle.listing.specs.Commands.{choices_line}
use Rattle.listing.proofs.Texts.{adds_then, adds_as}
use Rattle.listing.proofs.Told.{total_of}
use Rattle.listing.proofs.commands.counted.Goals as goal

pub returns : goal.returns
returns c =
    let s = c.args.s.now in
    let g = reply_read s (all_bytes s (λ i. omega (arith, c.type_inv.s i))) c.in_ok-b.ensures in
    let all = total_of g.book g.is.held g.is.fits c.of.ensures c.total-total.ensures in
    let rest = adds_then (adds_as (ap choices_line all) c.choices_line.ensures) c.end_line.ensures in
    rw g.reads (ap Ok ((adds_then (c.book_line.ensures g.book g.is.held) rest).shows [] c.none.ensures))
