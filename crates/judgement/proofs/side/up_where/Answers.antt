-- After k turns the array is the table of the first k places. Each store is one place more, by the test's answer.
use Rattle.judgement.proofs.Tables.{table_none, table_more}
use Rattle.judgement.proofs.side.up_where.Goals as goal

pub loop-k-init : goal.loop-k-init
loop-k-init g c t told = table_none t

pub loop-k-preserved : goal.loop-k-preserved
loop-k-preserved g c t told =
    let l = c.loop-k in
    table_more t l.k (l.invariant t told) (told l.k _ c.loop-k-test.true c.test.ensures)
