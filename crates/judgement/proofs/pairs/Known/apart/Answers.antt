-- After k turns the total counts the first k lightpaths. It counts each at most once, so that no sum is too large.
use native.Mathlib.Omega.{arith}
use mathlib.Core.Path.{◌≡◌, refl, ap, ◌∙◌}
use mathlib.Core.Bool.{Bool, true, false}
use mir.Val.{bool_byte}
use Prim.Native.Nat.{◌+◌}
use Rattle.judgement.specs.Judgement.{sum, one}
use Rattle.judgement.specs.Inside.{up_of, parted_by}
use Rattle.judgement.proofs.Sums.{sum_next}
use Rattle.judgement.proofs.Apart.{ones_few}
use Rattle.judgement.proofs.pairs.Known.apart.Goals as goal
use Rattle.judgement.proofs.pairs.Known.apart.Goals.{After-from-total}

-- a test as a number, in the code and in the definitions
as_one : (t : Bool) → bool_byte t ≡ one t
as_one true = refl
as_one false = refl

-- the total with this lightpath
next : (c : After-from-total)
    → let w = c.args.self.now.net.now in
    let l = c.loop-k in
    l.total + c.from-total.result ≡ sum (λ j. one (parted_by w.n w.from w.to (up_of c.args.self.now.up.now) j)) (l.k + 1)
next c =
    let w = c.args.self.now.net.now in
    let l = c.loop-k in
    omega (arith, l.invariant, c.from-total.ensures ∙ as_one _ ∙ ap one c.is_apart.ensures, sum_next (λ j. one (parted_by w.n w.from w.to (up_of c.args.self.now.up.now) j)) l.k)

pub loop-k-init : goal.loop-k-init
unfolding sum
loop-k-init c = refl

pub overflow_add-total : goal.overflow_add-total
overflow_add-total c =
    let w = c.args.self.now.net.now in
    let k = c.loop-k.k in
    omega (arith, next c, ones_few (parted_by w.n w.from w.to (up_of c.args.self.now.up.now)) (k + 1), w.fits.few, c.loop-k-test.true)

pub loop-k-preserved : goal.loop-k-preserved
loop-k-preserved c = next c
