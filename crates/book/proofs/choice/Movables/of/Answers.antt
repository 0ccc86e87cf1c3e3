-- Gathering the alternatives that are left gives the same as gathering all from none.
-- No more than eight lightpaths are found.
use mathlib.Core.Path.{sym, ◌∙◌}
use Rattle.book.proofs.Movables.{with_few, gathered_next, gathered_all}
use Rattle.book.proofs.choice.Movables.of.Goals as goal

pub loop-k-preserved : goal.loop-k-preserved
loop-k-preserved c =
    let l = c.loop-k in
    let now = c.in-Some.ensures.steps in
    rw c.add.ensures record {
      eight = with_few l.found c.in-Some.k.now l.invariant.eight;
      left = sym (gathered_next l.found _ _ now.0 now.1) ∙ l.invariant.left;
    }

pub returns : goal.returns
returns c = let l = c.loop-k in sym (gathered_all l.found _ _ (λ some. (c.in-None.ensures.steps some).0)) ∙ l.invariant.left
