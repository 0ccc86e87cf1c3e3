-- The loop over the SP records: the arrays hold those read, and what is left to read gives what the whole gives.
-- The number of nodes is that of the book handed in.
use mathlib.Core.Path.{refl}
use Rattle.std.proofs.lemmas.Result.{err_from_is_err_and}
use Rattle.book.proofs.Filling.{spans_start, spans_next, spans_stop, spans_done}
use Rattle.book.proofs.fill.with_spans.Goals as goal

pub loop-k-init : goal.loop-k-init
loop-k-init c = spans_start _ _ _ _ c.args.so_far.next.within

pub returns-in_err-span : goal.returns-in_err-span
returns-in_err-span c =
    let p = err_from_is_err_and c.from_residual.result c.from_residual.ensures.1 in
    rw (p.1, p.2) (λ ns e. spans_stop _ _ _ c.args.so_far.book ns e c.loop-k.invariant c.loop-k-test.true c.in_err-span.ensures)

pub loop-k-preserved : goal.loop-k-preserved
loop-k-preserved c =
    spans_next _ _ _ _ c.loop-k.invariant c.loop-k-test.true c.in_ok-span.ensures c.requires

pub returns : goal.returns
returns c = λ ns e. spans_done _ _ _ c.args.so_far.book ns e c.loop-k.invariant c.loop-k-test.false refl refl
