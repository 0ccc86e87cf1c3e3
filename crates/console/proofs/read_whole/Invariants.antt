-- What was read so far stands within the space.
use Rattle.std.proofs.Common.{◌≤◌, length}
use Rattle.console.proofs.read_whole.Given as goal

abbrev pub invariant-loop-turn : goal.invariant-loop-turn
invariant-loop-turn g l = l.len ≤ length l.space
