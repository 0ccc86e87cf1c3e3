-- The array holds, for every lightpath that there is, whether its words share no bit with the set. So the side by the array is the side by that test:
-- `table_side`.
use borrow.Author.Rules.{rules}
use mathlib.Core.Path.{◌≡◌, refl}
use Rattle.judgement.specs.Inside.{clear, up_table}
use Rattle.judgement.proofs.Tables.{table_side}
use Rattle.judgement.proofs.question.side_with.Goals as goal

pub returns : goal.returns
returns c =
    let b = c.args.b.now.book in
    let t = clear b.low b.high c.args.out.low c.args.out.high in
    let w = c.net-net.result in
    let e = c.net-net.ensures in
    let up : c.up_where-up.result ≡ up_table t w.n = search rules in
    rw (c.side_of.ensures, table_side t w.n w.from w.to w.fits.few up 64 c.lowest.result, e.0, e.1, e.2, c.lowest.ensures.0)
    refl
