-- The loop over the LP records: the arrays hold those read, and what is left to read gives what the whole gives.
-- That holds for every list of nodes and of spans of which the book handed in is the image.
use Rattle.book.proofs.Lightpaths.{LightpathsTurned}
use Rattle.book.proofs.fill.with_lightpaths.Given as goal

abbrev pub invariant-loop-k : goal.invariant-loop-k
invariant-loop-k l = LightpathsTurned l.fn.so_far.book l.s l.fn.so_far.next.at l.count l.k l.next l.from l.to l.rows.len l.rows.route l.rows.low l.rows.high
