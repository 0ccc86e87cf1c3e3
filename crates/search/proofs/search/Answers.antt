-- What `read` answers is a good book, whose choices are tried, or a refusal, which is handed on.
-- What is found in the struct is what is found in the book that it holds, which is well formed.
use mathlib.Core.Path.{ap}
use native.Mathlib.Omega.{arith}
use Rattle.std.specs.Prelude.{Ok}
use Rattle.book.proofs.Stages.{all_bytes}
use Rattle.book.proofs.Written.{reply_read}
use Rattle.search.proofs.search.Goals as goal

pub returns : goal.returns
returns c =
    let g = reply_read c.args.s.now (all_bytes c.args.s.now (λ i. omega (arith, c.type_inv.s i))) c.in_ok-b.ensures in
    rw g.reads (ap Ok (c.find.ensures g.book g.is.held g.is.fits))
