-- Every array of a book of nothing is noughts.
use Rattle.book.specs.Memory.{rows}
use Rattle.book.specs.Bits.{stations_into}
use Rattle.book.proofs.Padded.{padded_none}
use Rattle.book.proofs.fill.empty.Goals as goal

pub returns : goal.returns
unfolding rows stations_into
returns c = simp padded_none
