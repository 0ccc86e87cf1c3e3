-- A shift and a mask of one give bit i, and node i is in the set where that is 1. The law is `machine_has`.
use Rattle.book.proofs.Bits.{machine_has}
use Rattle.judgement.proofs.side.Side.has.Goals as goal

pub returns : goal.returns
returns c = machine_has _ _
