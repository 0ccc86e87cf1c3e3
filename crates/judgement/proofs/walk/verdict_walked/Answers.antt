-- The first span over its limit is the verdict, or what follows where there is none: whether the network is split, and else what the walk told.
-- It is one search, whose last answer is what follows.
use mathlib.Core.Path.{refl, sym, ap, ◌∙◌}
use Rattle.judgement.specs.Arrays.{split_or_in}
use Rattle.judgement.proofs.Found.{over_or, over_is, is_split, not_split}
use Rattle.judgement.proofs.walk.verdict_walked.Goals as goal

pub returns-in-Some : goal.returns-in-Some
returns-in-Some c = let b = c.args.b.now.judgeable.now.book in c.into.ensures ∙ ap (over_or (split_or_in b)) (sym c.in-Some.is) ∙ over_is b _ c.first_over.ensures

pub returns-in-Some-split : goal.returns-in-Some-split
returns-in-Some-split c =
    let b = c.args.b.now.judgeable.now.book in
    let split = c.in-Some-split.ensures in
    is_split b split.0 split.1 ∙ ap (over_or (split_or_in b)) (sym c.in_default.is) ∙ over_is b _ c.first_over.ensures

pub returns-in_default-split : goal.returns-in_default-split
returns-in_default-split c =
    let b = c.args.b.now.judgeable.now.book in
    c.cut_or_okay.ensures ∙ c.requires ∙ not_split b refl c.in_default-split.ensures
    ∙ ap (over_or (split_or_in b)) (sym c.in_default.is) ∙ over_is b _ c.first_over.ensures
