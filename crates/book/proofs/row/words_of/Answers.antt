-- What is left of the route, put into the words so far, gives the words of the whole.
use mathlib.Core.Path.{◌∙◌}
use lib.ListN.{drop_of_length-le}
use Rattle.book.specs.Bits.{word_into}
use Rattle.book.proofs.Walking.{route_cons}
use Rattle.book.proofs.row.words_of.Goals as goal

pub loop-x-preserved : goal.loop-x-preserved
unfolding word_into
loop-x-preserved c =
    let l = c.loop-x in
    let cons = route_cons c.args.route.now l.x-index c.loop-x-test.true in
    (l.invariant.0 ∙ rw (cons, c.with_span-w.ensures), l.invariant.1 ∙ rw (cons, c.with_span-w.ensures))

pub returns : goal.returns
unfolding word_into
returns c =
    let l = c.loop-x in
    let none = drop_of_length-le c.args.route.now {i = l.x-index} c.loop-x-test.false in
    rw (l.invariant.0, l.invariant.1, none)
