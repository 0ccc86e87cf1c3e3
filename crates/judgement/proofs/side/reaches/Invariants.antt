-- The side grows as in `grow`. What it holds so far is in the whole side, so that a node found in it is joined; and when all its nodes are taken it is
-- the whole side, so that a node not found in it is not.
use mathlib.Core.Bool.{Bool}
use Prim.Native.Nat.{ℕ, ◌-◌}
use Rattle.judgement.specs.Network.{Network}
use Rattle.judgement.specs.Inside.{Led, size}
use Rattle.judgement.proofs.Worklist.{Working}
use Rattle.judgement.proofs.side.reaches.Given as goal

abbrev pub invariant-loop-ends : goal.invariant-loop-ends
invariant-loop-ends l = (net : Network) → (up : ℕ → Bool) → Led 64 l.rows net up → Working 64 net up l.ends.from l.g.side.mask l.g.seen.mask

abbrev pub decreases-loop-ends : goal.decreases-loop-ends
decreases-loop-ends l = 64 - size 64 l.g.seen.mask
