-- After k turns the first k words have the nodes that the first k lightpaths meet. The route of a lightpath stands in its row of 16 places, and holds
-- numbers of spans only.
use borrow.Author.Rules.{rules}
use Prim.Native.Nat.{◌*◌}
use lib.ListN.{get_or}
use Rattle.book.proofs.Routes.{lent}
use Rattle.judgement.proofs.Usable.{usable_fits, held_usable}
use Rattle.judgement.proofs.MetWords.{held_span_ends, held_route}
use Rattle.judgement.proofs.node.met_by.Goals as goal

pub met_on-requires : goal.met_on-requires
met_on-requires c =
    let b = c.args.b.now in
    let k = c.loop-k.k in
    (search (rules, usable_fits, held_usable), rw (lent b.book.route (16 * k) (get_or b.book.len k 0)) (held_route c.requires k c.loop-k-test.true), held_span_ends c.requires)
