-- Gathering the alternatives that are left gives the same as gathering all from none.
-- No more than eight lightpaths are found.
use mathlib.Core.Path.{◌≡◌}
use Prim.Native.Nat.{◌≤◌}
use lib.ListN.{take}
use Rattle.book.specs.Moving.{gathered, movables_in}
use Rattle.book.proofs.choice.Movables.of.Given as goal

abbrev pub invariant-loop-k : goal.invariant-loop-k
invariant-loop-k l = record {
  eight : l.found.count ≤ 8;
  left : gathered l.found (take l.k-iterator.n l.k-iterator.iter.rest.now) ≡ movables_in l.fn.b;
}
