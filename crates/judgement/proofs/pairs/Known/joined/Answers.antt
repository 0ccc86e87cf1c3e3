-- Where the known side holds the first node it is that node's own, and where it holds only the second the two are not joined: `Known`.
-- Where it holds neither, the side of the first is grown.
use mathlib.Core.Path.{sym, ◌∙◌}
use Rattle.judgement.proofs.Known.{known_in, known_out}
use Rattle.judgement.proofs.pairs.Known.joined.Goals as goal

pub returns-then-has : goal.returns-then-has
returns-then-has c =
    let told = c.requires in
    c.has-then-has.ensures ∙ known_in 64 _ _ told.led.ends told.one _ c.args.ends.low.0 (sym c.has.ensures ∙ c.if-has.true)

pub returns-then-has-2 : goal.returns-then-has-2
returns-then-has-2 c =
    let told = c.requires in
    known_out 64 _ _ told.led.ends told.one _ c.args.ends.low.0 (sym c.has.ensures ∙ c.if-has.false) (sym c.has-2.ensures ∙ c.if-has-2.true)
