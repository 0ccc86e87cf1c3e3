-- The struct over the pieces is usable, and its own verdict, with its side given in stations, is the verdict over the pieces: `over_given`.
use mathlib.Core.Path.{ap₂, ◌∙◌}
use Rattle.judgement.specs.Contraction.{pieces}
use Prim.Native.Nat.{ℕ}
use Rattle.judgement.specs.declared.Verdict.{Verdict}
use Rattle.judgement.specs.Merge.{given_in}
use Rattle.judgement.proofs.Over.{over_usable, over_given}
use Rattle.judgement.proofs.merge.judged_over.Goals as goal

pub invariant_of-split_or : goal.invariant_of-split_or
invariant_of-split_or c =
    let h = c.requires.0 in
    record { usable = over_usable h.book h.fits (pieces h.book) (c.requires.1 h.book h.is h.fits) h.is c.over_pieces-book.ensures }

pub returns : goal.returns
returns c m e good =
    c.given_in.ensures
    ∙ ap₂ (λ (d : ℕ) (v : Verdict). given_in d c.args.labels.now.of v) c.stations.ensures c.split_or.ensures
    ∙ over_given m good (pieces m) (c.requires.1 m e good) e c.over_pieces-book.ensures
