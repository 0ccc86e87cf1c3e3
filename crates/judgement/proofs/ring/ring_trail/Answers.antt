-- The trail starts with lightpath k, which leads from its "to" to its "from". At each turn the way comes one round nearer.
-- What is left of it gathers the rest of the ring: nothing at the end.
use mathlib.Core.Path.{◌≡◌, ◌∙◌}
use native.Mathlib.Omega.{arith}
use Prim.Native.Nat.{◌-◌}
use lib.ListN.{get_or}
use Rattle.judgement.specs.Ways.{near}
use Rattle.judgement.specs.Nets.{net_in}
use Rattle.judgement.specs.Merge.{but}
use Rattle.judgement.proofs.Trails.{trailing_start, trailing_next, trailing_done}
use Rattle.judgement.proofs.ring.ring_trail.Goals as goal

pub loop-left-init : goal.loop-left-init
loop-left-init c =
    let p = c.requires in
    trailing_start _ _ _ _ p.2 p.1 (c.args.net.now.fits.from_low _) p.3 c.by-t.ensures

pub loop-left-preserved : goal.loop-left-preserved
loop-left-preserved c =
    let fits = c.args.net.now.fits in
    let round_is : get_or c.args.r.now.sets (c.loop-left.left - 1) 0 ≡ near (net_in c.args.net.now) (but c.args.k) (get_or c.args.net.now.to c.args.k 0) (c.loop-left.left - 1)
    = c.requires.2.each _ (omega (arith, c.loop-left.invariant.few)) in
    trailing_next _ _ _ _ (λ j. (fits.from_low j, fits.to_low j)) c.loop-left.invariant c.loop-left-test.true (rw (c.at.ensures ∙ round_is) at c.nearer-t.ensures)

pub returns : goal.returns
returns c = trailing_done _ _ _ _ c.loop-left.invariant c.loop-left-test.false
