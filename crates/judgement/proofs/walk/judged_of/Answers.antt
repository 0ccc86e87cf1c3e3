-- The verdict is that of the book, whatever way it was found; F is what the walk counted and Fc what the loads have above the limits, whatever the verdict is.
use Prim.Native.Nat.{ℕ}
use native.Mathlib.Omega.{arith}
use mathlib.Core.Path.{ap, ap₂, ◌∙◌}
use Rattle.judgement.specs.declared.Verdict.{Verdict}
use Rattle.judgement.specs.Judgement.{verdict, score_f}
use Rattle.judgement.specs.Answers.{judged}
use Rattle.judgement.proofs.Arrays.{over_in}
use Rattle.judgement.proofs.walk.judged_of.Goals as goal

pub returns : goal.returns
returns c m is fits =
    let counted = c.walk_all-walked.ensures.1 m is fits in
    ap₂ (λ (v : Verdict) (f : ℕ). judged v f c.excess.result) (rw c.of-loaded.ensures at c.verdict_walked.ensures ∙ over_in m fits is) (omega (arith, counted))
    ∙ ap (judged (verdict m) (score_f m)) (c.excess.ensures m (rw c.of-loaded.ensures is) fits)
