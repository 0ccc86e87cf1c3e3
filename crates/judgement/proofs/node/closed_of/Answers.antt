-- The words have the nodes met, so the first node that is down in them is the book's: `site-in`.
use mathlib.Core.Path.{◌∙◌}
use Rattle.judgement.proofs.MetWords.{site-in}
use Rattle.judgement.proofs.node.closed_of.Goals as goal

pub returns : goal.returns
returns c m e good = c.first_down.ensures ∙ site-in m good e c.met_by.ensures
