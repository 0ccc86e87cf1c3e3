-- Each of the two ors puts one node in, first a and then b. The law of both is `machine_put`.
use Rattle.book.proofs.Bits.{machine_put}
use Rattle.judgement.proofs.side.Side.with_ends.Goals as goal

pub returns : goal.returns
returns c = rw (machine_put 64 _ _ c.args.ends.low.0) (machine_put 64 _ _ c.args.ends.low.1)
