-- Moving the movable lightpaths that are left, in the rows as they now are, gives the same as moving all from the start; and nothing else changes.
-- Each has at most 255 alternatives, which bounds where those of the next begin.
use Rattle.book.proofs.Moved.{Moving}
use Rattle.book.proofs.choice.chosen.Given as goal

abbrev pub invariant-loop-k : goal.invariant-loop-k
invariant-loop-k l =
    let left = l.k-iterator.iter in
    Moving l.b l.fn.w l.fn.c l.new l.first l.k-iterator.n left.a.a.rest.now left.a.b.rest.now left.b.rest.now
