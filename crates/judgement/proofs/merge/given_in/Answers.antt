-- A verdict with a side has it given in stations; the others are handed on.
use mathlib.Core.Path.{sym, ap, ◌∙◌}
use mathlib.Core.Logic.{inl, inr}
use Rattle.judgement.specs.Merge.{given_in}
use Rattle.judgement.specs.declared.Verdict.TheVariants.{Split, Cut}
use Rattle.judgement.proofs.merge.given_in.Goals as goal

pub returns-in-Split : goal.returns-in-Split
returns-in-Split c = ap Split c.in_stations.ensures ∙ sym (ap (given_in _ _) c.in-Split.is)

pub returns-in-Cut : goal.returns-in-Cut
returns-in-Cut c = ap (Cut c.in-Cut.x) c.in_stations-in-Cut.ensures ∙ sym (ap (given_in _ _) c.in-Cut.is)

pub returns-in-Over : goal.returns-in-Over
returns-in-Over c = elim c.in-Over.is [ inl w ↦ rw w.3 | inr e ↦ rw e ]
