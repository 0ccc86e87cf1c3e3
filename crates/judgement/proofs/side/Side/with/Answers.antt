-- A one shifted by i is the set of i alone, and an or puts it in. The law is `machine_put`.
use Rattle.book.proofs.Bits.{machine_put}
use Rattle.judgement.proofs.side.Side.with.Goals as goal

pub returns : goal.returns
returns c = machine_put 64 _ _ c.requires
