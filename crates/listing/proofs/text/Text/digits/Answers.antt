-- With i digits left, what is written are the digits of the number divided by that power of the base.
use Prim.Native.Nat.{◌-◌}
use native.Mathlib.Omega.{arith}
use Rattle.listing.proofs.Spelling.{power_pos, power_fits, spelled_start, spelled_next, spelled_done}
use Rattle.listing.proofs.text.Text.digits.Goals as goal

pub loop-i-init : goal.loop-i-init
loop-i-init c = spelled_start _ _ _ _

pub pow-requires : goal.pow-requires
pow-requires c = power_fits c.args.base c.requires.0 c.loop-i.i c.args.k c.loop-i.auto.i c.requires.2

pub nonzero_div-n : goal.nonzero_div-n
nonzero_div-n c = omega (arith, c.pow.ensures, power_pos c.args.base c.requires.0 (c.loop-i.i - 1))

pub loop-i-preserved : goal.loop-i-preserved
loop-i-preserved c = spelled_next _ _ _ _ c.loop-i.i c.loop-i.invariant c.loop-i-test.true c.loop-i.auto.i (rw (c.glyph.ensures, c.pow.ensures) at c.byte-t.ensures)
