-- The loop over the AL records: the arrays hold those read, behind the rows of the lightpaths, and what is left to read gives what the whole gives.
-- The tally stands for those read, so each record is tested against them.
use native.Mathlib.Omega.{arith}
use mathlib.Core.Path.{refl}
use Rattle.std.proofs.lemmas.Result.{err_from_is_err_and}
use Rattle.book.proofs.Lightpaths.{alternatives_start, alternatives_next, alternatives_stop, alternatives_done}
use Rattle.book.proofs.fill.with_alternatives.Goals as goal

pub loop-k-init : goal.loop-k-init
loop-k-init c = alternatives_start _ _ _ _ c.args.so_far.next.within

pub returns-in_err-alternative : goal.returns-in_err-alternative
returns-in_err-alternative c =
    let p = err_from_is_err_and c.from_residual.result c.from_residual.ensures.1 in
    rw (p.1, p.2) (λ ns sps lps e f. alternatives_stop _ _ _ _ c.loop-k.invariant c.loop-k-test.true c.in_err-alternative.ensures ns sps lps e)

pub loop-k-preserved : goal.loop-k-preserved
loop-k-preserved c =
    rw (c.put.ensures, c.with-tally.ensures)
    (alternatives_next _ _ _ _ c.loop-k.invariant c.loop-k-test.true c.requires.0 c.requires.1.lightpaths_few c.in_ok-alternative.ensures (omega arith))

pub returns : goal.returns
returns c = alternatives_done _ _ _ _ c.loop-k.invariant c.loop-k-test.false refl refl
