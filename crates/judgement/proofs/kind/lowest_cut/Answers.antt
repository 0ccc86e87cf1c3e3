-- The two searches, over the spans below 64 and over the others, are what the law of the parts asks for.
-- Where the first finds a span that is the answer, and else the second's.
use borrow.Author.Rules.{rules}
use Prim.Native.Nat.{◌-◌}
use mathlib.Core.Path.{◌≡◌, ap, ◌∙◌}
use Rattle.std.specs.Prelude.{Option, None}
use Rattle.std.specs.Option.{option_or}
use Rattle.judgement.specs.declared.kind.Parted.{Parted}
use Rattle.judgement.specs.declared.Verdict.TheVariants.{Okay}
use Rattle.judgement.specs.Judgement.{first_of}
use Rattle.judgement.specs.Inside.{parts_in, cut_in, cut_or}
use Rattle.judgement.proofs.Found.{cut_is, cut_either}
use Rattle.judgement.proofs.kind.lowest_cut.Goals as goal

pub returns : goal.returns
returns c =
    let b = c.args.b.now.book in
    let few = c.min-few.ensures in
    let high : Option Parted = first_of (parts_in b b.high) (cut_in b b.high 64) None (b.spans - c.min-few.result) 0 in
    let either : c.or_else.result ≡ option_or c.first_cut.result high = search rules in
    ap (cut_or Okay) either ∙ cut_either Okay _ _ ∙ cut_is b _ _ (rw few at c.first_cut.ensures) (ap (λ n. first_of (parts_in b b.high) (cut_in b b.high 64) None (b.spans - n) 0) few)
