-- A book has at most 152 routes, and the length of one is a byte, so that the sum fits.
use mathlib.Core.Path.{◌≡◌}
use lib.ListN.{length, length-take}
use native.Mathlib.Omega.{arith}
use borrow.Author.Rules.{rules}
use borrow.Author.Tests.{tests}
use Rattle.std.proofs.lemmas.Iterator.{YieldsList-from_slice, YieldsList-from_take}
use Rattle.std.proofs.lemmas.Iterator.Adapters.{fits_from_length, at_most_from_yields_List}
use Rattle.std.proofs.lemmas.Iterator.Consumers.{YieldsList-at}
use Rattle.book.proofs.write.lightpaths_len.Goals as goal

pub sum-requires-clause-fits : goal.sum-requires-clause-fits
sum-requires-clause-fits c =
    let b = c.args.b.now in
    let few : length b.len ≡ 152 = search rules in
    fits_from_length _ _ 152 _
    (at_most_from_yields_List (YieldsList-at c.map.ensures.source (YieldsList-from_take b.lightpaths (YieldsList-from_slice b.len (cc)) (cc))) (omega (arith, length-take b.lightpaths b.len)))
    c.map.ensures.closure (omega arith) (λ x r q k. search (rules, tests))
