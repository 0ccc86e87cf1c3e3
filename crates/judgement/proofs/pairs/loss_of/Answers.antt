-- The rows lead as the lightpaths do that lack the span, so what grows by them is the side with the span out, and the lightpaths counted are its pairs.
-- Where that side is the set of stations, which has all ends, there are none: `none_apart`.
use mathlib.Core.Path.{◌≡◌, sym, ◌∙◌}
use borrow.Author.Tests.{eqb-true}
use lib.Count.{count_trailing_zeros}
use Rattle.judgement.specs.Network.{side_of}
use Rattle.judgement.specs.Inside.{up_of, unset}
use Rattle.judgement.specs.Nets.{net_in}
use Rattle.judgement.proofs.Tables.{table_side}
use Rattle.judgement.proofs.Apart.{parted_sum}
use Rattle.judgement.proofs.Known.{none_apart}
use Rattle.judgement.proofs.pairs.loss_of.Goals as goal
use Rattle.judgement.proofs.pairs.loss_of.Goals.{After-grow-side}

-- what has grown
module _ (g : After-grow-side) where
  by_array : g.grow-side.result.mask ≡ side_of (net_in g.args.net.now) (up_of g.up_without-up.result) 64 (count_trailing_zeros 64 g.args.stations.mask)
  by_array = rw (← g.lowest.ensures) (g.grow-side.ensures _ _ g.rows-rows.ensures)

  by_words : g.grow-side.result.mask ≡ side_of (net_in g.args.net.now) (unset g.args.words.now g.args.bit) 64 (count_trailing_zeros 64 g.args.stations.mask)
  by_words =
      let w = g.args.net.now in
      by_array ∙ table_side _ w.n w.from w.to w.fits.few g.up_without-up.ensures 64 (count_trailing_zeros 64 g.args.stations.mask)

pub returns-then-eq : goal.returns-then-eq
returns-then-eq c =
    let side = by_words (goal.at.returns-then-eq c).After-grow-side in
    let alike = eqb-true _ _ (sym c.if-eq.ensures) in
    (side, none_apart c.args.words.now c.args.bit c.args.net.now.fits (record { start = _; low = c.requires.0; is = sym alike ∙ side }) c.requires.2)

pub returns-else-eq : goal.returns-else-eq
returns-else-eq c =
    let w = c.args.net.now in
    (by_words (goal.at.returns-else-eq c).After-grow-side, parted_sum w.n w.from w.to c.args.words.now c.args.bit w.fits.few c.up_without-up.ensures c.apart-pairs.ensures)
