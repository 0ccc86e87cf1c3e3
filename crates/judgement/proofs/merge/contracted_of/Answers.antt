-- A span over its limit is the answer, with no merge; else the pieces are made and what is left is judged. Both are one search, whose last answer is that.
use mathlib.Core.Path.{sym, ap, ap₂, ◌∙◌}
use Rattle.judgement.specs.declared.Verdict.{Verdict}
use Rattle.judgement.specs.Pieces.{split_over}
use Rattle.judgement.specs.Contraction.{pieces, merges_in, contracted}
use Rattle.judgement.proofs.Over.{over_first, contracted_is}
use Rattle.judgement.proofs.merge.contracted_of.Goals as goal

pub returns-in-Some : goal.returns-in-Some
returns-in-Some c m e good =
    ap (λ (v : Verdict). contracted v 0) c.into.ensures
    ∙ ap (over_first (split_over m (pieces m)) (merges_in m 4096 (λ i. i))) (sym c.in-Some.is)
    ∙ contracted_is m good e (rw c.of.ensures at c.first_over.ensures)

pub returns-in-None : goal.returns-in-None
returns-in-None c m e good =
    ap₂ contracted (c.judged_over.ensures m e good) (c.pieces_of-merges.ensures m e good).counted
    ∙ ap (over_first (split_over m (pieces m)) (merges_in m 4096 (λ i. i))) (sym c.in-None.is)
    ∙ contracted_is m good e (rw c.of.ensures at c.first_over.ensures)
