-- The sizes go by in the order of the digits, and their product is the number of choices.
-- Each is at most 8, so that the product of some of them fits.
use Prim.Native.Nat.{suc, min}
use native.Mathlib.Omega.{arith}
use borrow.Author.Rules.{rules}
use borrow.Author.Tests.{tests}
use Rattle.std.proofs.lemmas.Iterator.{YieldsList-from_slice, YieldsList-from_map}
use Rattle.book.proofs.Digits.{product_fits, product_all}
use Rattle.book.proofs.choice.Movables.total.Goals as goal

pub product-requires-clause-fits : goal.product-requires-clause-fits
product-requires-clause-fits c =
    product_fits c.args.self.more (YieldsList-from_map _ (λ x. suc (min x 7)) (YieldsList-from_slice c.args.self.more cc) c.map.ensures.closure (λ x r q k. search (rules, tests))) (search rules)

pub returns : goal.returns
returns c =
    let all = product_all c.args.self.more (YieldsList-from_map _ (λ x. suc (min x 7)) (YieldsList-from_slice c.args.self.more cc) c.map.ensures.closure (λ x r q k. search (rules, tests))) _ c.product.ensures.ran in
    omega (arith, all)
