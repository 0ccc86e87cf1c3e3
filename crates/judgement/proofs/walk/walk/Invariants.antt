-- Coming down, the walk has at each span the lowest of those behind it that parts the stations, and the pairs of all of them. When it has come to the first
-- span these are the lowest of all and the pairs of all.
use mathlib.Core.Path.{◌≡◌}
use Prim.Native.Nat.{◌+◌}
use Rattle.std.specs.Prelude.{None}
use Rattle.judgement.specs.Inside.{parts_in, cut_in, apart_in}
use Rattle.judgement.proofs.First.{Back}
use Rattle.judgement.proofs.walk.walk.Given as goal

abbrev pub invariant-loop-i : goal.invariant-loop-i
invariant-loop-i l =
    let b = l.fn.b.book in
    Back (parts_in b l.words) (cut_in b l.words l.base) None l.count l.i l.cut × (l.pairs + apart_in b.lightpaths b.from b.to l.words l.i ≡ apart_in b.lightpaths b.from b.to l.words l.count)
