-- The loop over the AL records: the arrays hold those read, behind the rows of the lightpaths, and what is left to read gives what the whole gives.
-- The tally stands for those read, so each record is tested against them.
use Rattle.book.proofs.Lightpaths.{AlternativesTurned}
use Rattle.book.proofs.fill.with_alternatives.Given as goal

abbrev pub invariant-loop-k : goal.invariant-loop-k
invariant-loop-k l = AlternativesTurned l.fn.so_far.book l.s l.fn.so_far.next.at l.count l.k l.next l.tally l.owner l.rows.len l.rows.route l.rows.low l.rows.high
