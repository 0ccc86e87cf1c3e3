-- A refusal is told by its number and place, which are those of the reading.
use mathlib.Core.Path.{refl}
use borrow.Author.Rules.{rules}
use Rattle.book.specs.Format.{reading}
use Rattle.book.specs.Writing.{chosen_of}
use Rattle.book.proofs.ChoiceRead.{chosen_number}
use Rattle.listing.specs.Commands.{judge_of}
use Rattle.listing.proofs.Told.{told_text}
use Rattle.listing.proofs.commands.judge.Goals as goal

pub returns : goal.returns
returns c =
    let a = c.args in
    let s = a.s.now in
    told_text (judge_of a.n) (chosen_of (reading s) a.n) (λ k p. refl) (λ k p. chosen_number s a.n) c.judged.ensures (search rules)
