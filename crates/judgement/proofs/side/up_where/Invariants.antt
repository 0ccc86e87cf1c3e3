-- After k turns the array is the table of the first k places, for each test that the calls tell of.
use Prim.Native.Nat.{ℕ, ◌<◌}
use mathlib.Core.Bool.{Bool}
use mathlib.Core.Path.{◌≡◌}
use Rattle.judgement.specs.Inside.{up_table}
use Rattle.judgement.proofs.side.up_where.Given as goal

abbrev pub invariant-loop-k : goal.invariant-loop-k
invariant-loop-k g l = (t : ℕ → Bool) → ((k : ℕ) (b : Bool) → k < l.n → goal.F-post g l.test k b → b ≡ t k) → l.up ≡ up_table t l.k
