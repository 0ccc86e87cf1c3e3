-- What is left of the route fails, from the present node on, where the whole fails from its start.
-- Each turn is one step of the walk, and a step that fails ends it.
use mathlib.Core.Path.{◌≡◌}
use Prim.Native.Nat.{◌≤◌, ◌<◌}
use lib.ListN.{length, drop}
use Rattle.book.specs.Bits.{put}
use Rattle.book.specs.Inside.{stray_in}
use Rattle.book.proofs.network.Network.first_stray.Given as goal

abbrev pub invariant-loop-j : goal.invariant-loop-j
invariant-loop-j l = (l.last ≤ length l.route) × (l.p < 64) × (stray_in l.self.book.now.left l.self.book.now.right (put 0 l.from) l.from 0 0 l.route l.to ≡ stray_in l.self.book.now.left l.self.book.now.right l.met l.p l.last l.j (drop l.j l.route) l.to)
