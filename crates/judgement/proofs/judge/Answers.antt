-- The reading of the choice is a good book, of which the answer is told, or a refusal, which is handed on.
-- Each is a law of `Opened`, for whatever is answered of a reading.
use mathlib.Core.Path.{ap}
use Rattle.std.specs.Prelude.{Ok}
use native.Mathlib.Omega.{arith}
use Rattle.book.proofs.Stages.{all_bytes}
use Rattle.judgement.specs.Answers.{judged_of}
use Rattle.judgement.proofs.Opened.{good_held, good_told}
use Rattle.judgement.proofs.judge.Goals as goal

pub judged_of-requires : goal.judged_of-requires
judged_of-requires c = good_held _ _ c.in_ok-choose.ensures (all_bytes c.args.s.now (λ i. omega (arith, c.type_inv.s i)))

pub returns : goal.returns
returns c = good_told _ _ c.in_ok-choose.ensures judged_of (all_bytes c.args.s.now (λ i. omega (arith, c.type_inv.s i))) (λ m e w. ap Ok (c.judged_of.ensures m e w))
