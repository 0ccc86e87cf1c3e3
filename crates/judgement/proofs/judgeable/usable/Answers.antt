-- The tests are those of the struct, one after another; the ends of the lightpaths are tested one by one.
use native.Mathlib.Omega.{arith}
use Rattle.std.proofs.lemmas.Grind.{common_steps}
use Rattle.judgement.proofs.Usable.{below_each}
use Rattle.judgement.proofs.judgeable.usable.Goals as goal

pub returns-then-all_nodes : goal.returns-then-all_nodes
returns-then-all_nodes c = grind (arith, common_steps, below_each 64 c.args.b.now.from, below_each 64 c.args.b.now.to)

pub returns-else-all_nodes : goal.returns-else-all_nodes
returns-else-all_nodes c = grind (arith, common_steps, below_each 64 c.args.b.now.from, below_each 64 c.args.b.now.to)
