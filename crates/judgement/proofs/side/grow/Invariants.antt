-- The side holds only what is joined to the start, and what its nodes lead to once they are taken; each turn takes a node that was not taken before.
-- When all are taken it is the side of the start: `working_end`.
use mathlib.Core.Bool.{Bool}
use Prim.Native.Nat.{ℕ, ◌-◌}
use Rattle.judgement.specs.Network.{Network}
use Rattle.judgement.specs.Inside.{Led, size}
use Rattle.judgement.proofs.Worklist.{Working}
use Rattle.judgement.proofs.side.grow.Given as goal

abbrev pub invariant-loop-g : goal.invariant-loop-g
invariant-loop-g l = (net : Network) → (up : ℕ → Bool) → Led 64 l.rows net up → Working 64 net up l.start l.g.side.mask l.g.seen.mask

abbrev pub decreases-loop-g : goal.decreases-loop-g
decreases-loop-g l = 64 - size 64 l.g.seen.mask
