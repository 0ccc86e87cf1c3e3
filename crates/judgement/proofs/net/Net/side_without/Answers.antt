-- The array holds, for every lightpath that there is, whether its word lacks the bit. So the side by the array is the side by that test: `table_side`.
use Rattle.judgement.proofs.Tables.{table_side}
use Rattle.judgement.proofs.net.Net.side_without.Goals as goal

pub returns : goal.returns
returns c =
    let w = c.args.self.now in
    rw c.side_of.ensures (table_side _ w.n w.from w.to w.fits.few c.up_without.ensures 64 c.args.start)
