-- The loop over the ND records: the set of stations holds those read, and what is left to read gives what the whole gives.
use mathlib.Core.Path.{refl}
use Rattle.std.proofs.lemmas.Result.{err_from_is_err_and}
use Rattle.book.proofs.Filling.{nodes_start, nodes_next, nodes_stop, nodes_done}
use Rattle.book.proofs.fill.with_nodes.Goals as goal

pub loop-k-init : goal.loop-k-init
loop-k-init c = nodes_start _ _ _ c.args.here.within

pub returns-in_err-station : goal.returns-in_err-station
returns-in_err-station c =
    let p = err_from_is_err_and c.from_residual.result c.from_residual.ensures.1 in
    rw (p.1, p.2) (nodes_stop _ _ _ c.loop-k.invariant c.loop-k-test.true c.in_err-station.ensures)

pub loop-k-preserved : goal.loop-k-preserved
loop-k-preserved c =
    rw c.put_if-stations.ensures (nodes_next _ _ _ c.loop-k.invariant c.loop-k-test.true c.in_ok-station.ensures)

pub returns : goal.returns
returns c = nodes_done _ _ _ c.loop-k.invariant c.loop-k-test.false c.empty.ensures refl refl
