-- The two walks, over the spans below 64 and over the others, are what the laws of the parts ask for: `cut_is` for the verdict and `score_is` for F.
-- F is at most 1,536, so that the sum is not too large.
use mathlib.Core.Path.{refl, ap, ◌∙◌}
use native.Mathlib.Omega.{arith}
use Rattle.judgement.specs.declared.Verdict.TheVariants.{Okay}
use Rattle.judgement.specs.Inside.{cut_or}
use Rattle.judgement.proofs.Scores.{score_f_most}
use Rattle.judgement.proofs.Apart.{score_is}
use Rattle.judgement.proofs.Found.{cut_is, cut_either}
use Rattle.judgement.proofs.walk.walk_all.Goals as goal

pub returns : goal.returns
returns c =
    let few = c.min-few.ensures in
    let low = c.walk-low.ensures in
    let high = c.walk-high.ensures in (
      ap (cut_or Okay) c.or.ensures ∙ cut_either Okay _ _ ∙ cut_is c.args.b.now.book _ _ (rw few at low.0) (rw few at high.0),
      (λ m is fits. score_is m is fits few refl low.1 high.1),
    )

pub overflow_add-result : goal.overflow_add-result
overflow_add-result c =
    let h = c.requires in
    omega (arith, (returns c).1 h.book h.is h.fits, score_f_most h.book h.fits)
