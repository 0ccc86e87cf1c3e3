-- Each word is tested at its own place: the first at n, and the second at what n has above 64. The law is `beyond_words`.
use borrow.Author.Rules.{rules}
use mathlib.Core.Path.{◌≡◌, ap, ◌∙◌}
use mathlib.Core.Bool.{Bool, not, ◌||◌}
use Prim.Native.Nat.{◌-◌, ◌^◌, min}
use lib.Dec.{ltb}
use Rattle.judgement.specs.Withdrawn.{in_words, beyond}
use Rattle.judgement.proofs.Booked.{beyond_words}
use Rattle.judgement.proofs.question.Spans.beyond.Goals as goal
use Rattle.judgement.proofs.question.Spans.beyond.Goals.{Start}

law : (c : Start) → (not (ltb c.args.self.low (2 ^ c.args.n)) || not (ltb c.args.self.high (2 ^ (c.args.n - min c.args.n 64)))) ≡ beyond (in_words c.args.self.low c.args.self.high) c.args.n
law c = beyond_words (search rules) (search rules) c.args.n c.requires

pub returns-then-past : goal.returns-then-past
returns-then-past c =
    let high = not (ltb c.args.self.high (2 ^ (c.args.n - min c.args.n 64))) in
    c.if-past.true ∙ ap (λ (t : Bool). t || high) c.if-past.ensures ∙ law (goal.at.returns-then-past c).Start

pub returns-else-past : goal.returns-else-past
returns-else-past c =
    let high = not (ltb c.args.self.high (2 ^ (c.args.n - min c.args.n 64))) in
    rw c.min.ensures at c.past-else-past.ensures ∙ ap (λ (t : Bool). t || high) c.if-past.ensures ∙ law (goal.at.returns-else-past c).Start
