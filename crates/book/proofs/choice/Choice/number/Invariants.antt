-- The sum so far and the sum of the digits that are left make the number; and the weight of the next digit times the sizes that are left is their product.
use mathlib.Core.Path.{◌≡◌}
use Prim.Native.Nat.{◌+◌, ◌*◌}
use Rattle.book.specs.Choice.{product, weighed, number}
use Rattle.book.specs.Moving.{capped, sizes_in}
use Rattle.book.proofs.choice.Choice.number.Given as goal

abbrev pub invariant-loop-digit : goal.invariant-loop-digit
invariant-loop-digit l = record {
  sum : l.n + weighed l.weight (capped l.digit-iterator.b.rest.now) l.digit-iterator.a.rest.now ≡ number (sizes_in l.fn.w) l.fn.self.digits;
  weights : l.weight * product (capped l.digit-iterator.b.rest.now) ≡ product (sizes_in l.fn.w);
}
