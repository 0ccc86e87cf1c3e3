-- What `read` answers is a good book, whose choice is then read, or a refusal, which is handed on as it is.
-- Both ways the answer is what the reading of the bytes says.
use native.Mathlib.Omega.{arith}
use Rattle.book.proofs.Stages.{all_bytes}
use Rattle.book.proofs.Written.{reply_read}
use Rattle.book.proofs.choice.choose.Goals as goal

pub returns : goal.returns
returns c =
    let g = reply_read c.args.s.now (all_bytes c.args.s.now (λ i. omega (arith, c.type_inv.s i))) c.in_ok-read.ensures in
    rw g.reads (c.chosen_of.ensures g.book g.is.held g.is.fits)
