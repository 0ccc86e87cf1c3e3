-- The span is tested against the count of spans, which the struct has; then the side is the book's, and so is the set of stations.
-- The side holds stations only, so it holds all of them where it holds as many. Nothing is asked of loads, so that a choice that is over is answered too.
use mathlib.Core.Path.{◌≡◌, refl, ap, ◌∙◌}
use native.Mathlib.Omega.{arith}
use lib.ListN.{length}
use borrow.Author.Tests.{lt-ltb}
use Rattle.book.specs.declared.Book.{Book}
use Rattle.judgement.specs.Judgement.{without, stations}
use Rattle.judgement.proofs.Whole.{whole_size}
use Rattle.judgement.proofs.Usable.{held_spans}
use Rattle.judgement.proofs.Arrays.{side_in}
use Rattle.judgement.proofs.question.asked_of.Goals as goal

pub returns : goal.returns
returns c m e good =
    let n : c.args.b.spans ≡ length m.spans = ap (λ (x : Book). x.spans) e in
    let st : c.args.b.stations ≡ stations m = ap (λ (x : Book). x.stations) e in
    rw (
      lt-ltb c.args.x (length m.spans) (omega (arith, c.from.ensures, c.if-x-from.false)),
      c.asked.ensures,
      c.side_out.ensures ∙ side_in m good e c.args.x (omega (arith, c.from.ensures, c.if-x-from.false, held_spans c.requires)),
      st,
      whole_size m good (without m c.args.x),
    )
    refl
