-- A refusal is told by its number and place, which are those of the reading.
use mathlib.Core.Path.{refl}
use borrow.Author.Rules.{rules}
use Rattle.book.specs.Format.{reading}
use Rattle.book.proofs.Tabled.{refused_number}
use Rattle.listing.specs.Commands.{read_of}
use Rattle.listing.proofs.Told.{told_text}
use Rattle.listing.proofs.commands.read.Goals as goal

pub returns : goal.returns
returns c =
    let a = c.args in
    let s = a.s.now in
    told_text read_of (reading s) (λ k p. refl) (λ k p. refused_number s) c.counted.ensures (search rules)
