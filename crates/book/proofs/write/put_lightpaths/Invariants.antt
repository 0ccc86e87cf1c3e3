-- The records of the first k lightpaths are laid into the buffer as it was, one behind another.
-- The book has at most 96 lightpaths.
use Prim.Native.Nat.{◌≤◌}
use Rattle.book.proofs.Writers.{Putting}
use Rattle.book.proofs.write.put_lightpaths.Given as goal

abbrev pub invariant-loop-k : goal.invariant-loop-k
invariant-loop-k l = record { few : l.b.lightpaths ≤ 96; put : Putting l.b l.initial.out l.at l.out l.k l.place }
