-- The set is tested against the count of spans, which the struct has; then the side is the book's, and so is the set of stations.
-- The side holds stations only, so it holds all of them where it holds as many.
use mathlib.Core.Path.{◌≡◌, refl, sym, ap, ◌∙◌}
use borrow.Author.Rules.{rules}
use Rattle.book.specs.declared.Book.{Book}
use Rattle.judgement.specs.Judgement.{stations}
use Rattle.judgement.specs.Withdrawn.{up_with, in_words, beyond}
use Rattle.judgement.proofs.Whole.{whole_size}
use Rattle.judgement.proofs.Usable.{held_spans}
use Rattle.judgement.proofs.Booked.{side_booked}
use Rattle.judgement.proofs.question.set_asked_of.Goals as goal

pub beyond-requires : goal.beyond-requires
beyond-requires c = held_spans c.requires

pub returns : goal.returns
returns c m e good =
    let a = c.args in
    let st : a.b.stations ≡ stations m = ap (λ (x : Book). x.stations) e in
    rw (
      sym (ap (λ (x : Book). beyond (in_words a.out.low a.out.high) x.spans) e) ∙ sym c.if-beyond.ensures,
      c.asked.ensures,
      c.side_with.ensures ∙ side_booked (search rules) (search rules) m e,
      st,
      whole_size m good (up_with m (in_words a.out.low a.out.high)),
    )
    refl
