-- A struct that cannot be judged has its own answer; of another, the first span over its limit is the answer, or what follows where there is none.
-- Both are one search, whose last answer is what follows.
use mathlib.Core.Path.{◌≡◌, sym, ap, ◌∙◌}
use mathlib.Core.Bool.{Bool, cond}
use Rattle.judgement.specs.declared.Verdict.TheVariants.{Split}
use Rattle.judgement.specs.declared.judgeable.Judgeable.{Judgeable}
use Rattle.judgement.specs.Arrays.{split_or_in, over_or_in, verdict_in}
use Rattle.judgement.proofs.Found.{over_or, over_is}
use Rattle.judgement.proofs.kind.verdict_of.Goals as goal

-- where the struct is usable
judged : (j : Judgeable) → over_or_in j.book ≡ verdict_in j.book
judged j = sym (ap (λ (t : Bool). cond t (over_or_in j.book) (Split 0)) j.usable.is)

pub returns-in-Some-first_over : goal.returns-in-Some-first_over
returns-in-Some-first_over c =
    let j = c.in-Some.b in
    c.into.ensures ∙ ap (over_or (split_or_in j.book)) (sym c.in-Some-first_over.is) ∙ over_is j.book _ (rw c.of-2.ensures at c.first_over.ensures) ∙ judged j ∙ ap verdict_in c.in-Some.ensures

pub returns-in-None : goal.returns-in-None
returns-in-None c =
    let j = c.in-Some.b in
    c.split_or.ensures ∙ ap (over_or (split_or_in j.book)) (sym c.in-None.is) ∙ over_is j.book _ (rw c.of-2.ensures at c.first_over.ensures) ∙ judged j ∙ ap verdict_in c.in-Some.ensures
