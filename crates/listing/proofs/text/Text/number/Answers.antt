-- A blank, and then as many digits as the number has.
use Prim.Native.Nat.{ℕ}
use mathlib.Core.Path.{sym, ap}
use Rattle.listing.specs.Text.{spelled}
use Rattle.listing.proofs.Texts.{adds_then, adds_as}
use Rattle.listing.proofs.Spelling.{width_is}
use Rattle.listing.proofs.text.Text.number.Goals as goal

pub returns : goal.returns
returns c =
    let n = c.args.n in
    let wide = width_is n c.ilog10-k.result c.ranges.n.fits (rw c.max.ensures at c.ilog10-k.ensures.power_le) (rw c.max.ensures at c.ilog10-k.ensures.next_power_gt) in
    adds_then c.byte.ensures (adds_as (ap (λ (k : ℕ). spelled 10 k n) (sym wide)) c.digits.ensures)
