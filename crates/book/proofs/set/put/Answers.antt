-- Growth by or of a shifted one puts that one number in: `machine_put`.
use Rattle.book.proofs.Bits.{machine_put}
use Rattle.book.proofs.set.put.Goals as goal

pub returns : goal.returns
returns c = machine_put 64 _ _ c.requires
