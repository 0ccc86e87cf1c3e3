-- Each call has one span less of the list.
use Rattle.std.proofs.Common.{length}
use Rattle.withdrawn.proofs.Tally.+add_parts.Given as goal

abbrev pub decreases-add_parts : goal.decreases-add_parts
decreases-add_parts l = length l.spans.now
