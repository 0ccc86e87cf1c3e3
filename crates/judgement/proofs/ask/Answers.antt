-- The reading of the choice is a good book, of which the answer is told, or a refusal, which is handed on.
-- Each is a law of `Opened`, for whatever is answered of a reading.
use native.Mathlib.Omega.{arith}
use Rattle.book.proofs.Stages.{all_bytes}
use Rattle.judgement.specs.Answers.{asked_of}
use Rattle.judgement.proofs.Opened.{good_held, good_told}
use Rattle.judgement.proofs.ask.Goals as goal

pub asked_of-requires : goal.asked_of-requires
asked_of-requires c = good_held _ _ c.in_ok-choose.ensures (all_bytes c.args.s.now (λ i. omega (arith, c.type_inv.s i)))

pub returns : goal.returns
returns c = good_told _ _ c.in_ok-choose.ensures (λ g. asked_of g c.args.x) (all_bytes c.args.s.now (λ i. omega (arith, c.type_inv.s i))) c.asked_of.ensures
