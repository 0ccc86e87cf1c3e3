-- The loop over the ND records: the set of stations holds those read, and what is left to read gives what the whole gives.
use Rattle.book.proofs.Filling.{NodesTurned}
use Rattle.book.proofs.fill.with_nodes.Given as goal

abbrev pub invariant-loop-k : goal.invariant-loop-k
invariant-loop-k l = NodesTurned l.s l.fn.here.at l.count l.k l.next l.stations
