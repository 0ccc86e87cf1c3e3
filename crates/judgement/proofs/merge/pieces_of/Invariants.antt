-- At each turn the pieces that the definition ends with are those that it makes of the present ones, since the ring that is found is the one that it takes.
-- The sum of the labels gets less with each merge, so the loop ends.
use mathlib.Core.Path.{◌≡◌}
use mathlib.Core.Bool.{true}
use Prim.Native.Nat.{◌-◌}
use Rattle.book.specs.Book.{RouteBook, well_formed}
use Rattle.book.specs.Memory.{book_of}
use Rattle.judgement.proofs.Engine.{Going}
use Rattle.judgement.proofs.merge.pieces_of.Given as goal

abbrev pub invariant-loop-ring : goal.invariant-loop-ring
invariant-loop-ring l = (m : RouteBook) → l.fn.j.book ≡ book_of m → well_formed m ≡ true → Going m l.labels.of l.merges

abbrev pub decreases-loop-ring : goal.decreases-loop-ring
decreases-loop-ring l = 4096 - l.merges
