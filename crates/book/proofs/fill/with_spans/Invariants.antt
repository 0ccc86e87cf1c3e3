-- The loop over the SP records: the arrays hold those read, and what is left to read gives what the whole gives.
-- The number of nodes is that of the book handed in.
use Rattle.book.proofs.Filling.{SpansTurned}
use Rattle.book.proofs.fill.with_spans.Given as goal

abbrev pub invariant-loop-k : goal.invariant-loop-k
invariant-loop-k l = SpansTurned l.fn.so_far.book.nodes l.s l.fn.so_far.next.at l.count l.k l.next l.left l.right l.limit
