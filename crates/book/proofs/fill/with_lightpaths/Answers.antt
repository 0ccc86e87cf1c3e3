-- The loop over the LP records: the arrays hold those read, and what is left to read gives what the whole gives.
-- That holds for every list of nodes and of spans of which the book handed in is the image.
use native.Mathlib.Omega.{arith}
use mathlib.Core.Path.{refl}
use Rattle.std.proofs.lemmas.Result.{err_from_is_err_and}
use Rattle.book.proofs.Lightpaths.{lightpaths_start, lightpaths_next, lightpaths_stop, lightpaths_done}
use Rattle.book.proofs.fill.with_lightpaths.Goals as goal

pub loop-k-init : goal.loop-k-init
loop-k-init c = lightpaths_start _ _ _ _ c.args.so_far.next.within

pub returns-in_err-lightpath : goal.returns-in_err-lightpath
returns-in_err-lightpath c =
    let p = err_from_is_err_and c.from_residual.result c.from_residual.ensures.1 in
    rw (p.1, p.2) (lightpaths_stop _ _ _ _ c.loop-k.invariant c.loop-k-test.true c.in_err-lightpath.ensures)

pub loop-k-preserved : goal.loop-k-preserved
loop-k-preserved c =
    rw c.put.ensures
    (lightpaths_next _ _ _ _ c.loop-k.invariant c.loop-k-test.true c.requires.0 c.in_ok-lightpath.ensures (omega arith))

pub returns : goal.returns
returns c = lightpaths_done _ _ _ _ c.loop-k.invariant c.loop-k-test.false refl refl
