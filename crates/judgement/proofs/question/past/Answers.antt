-- A shift tells whether the word is below a power of two; a word of 64 bits is below every power from the 64th on.
use mathlib.Core.Path.{sym, ap, ◌∙◌}
use mathlib.Core.Bool.{not}
use Prim.Native.Nat.{◌^◌, ◌<◌}
use native.Mathlib.Omega.{arith}
use lib.Pow.{pow_mono}
use borrow.Author.Tests.{lt-ltb, le-ltb}
use borrow.Author.Rules.{rules}
use Rattle.judgement.proofs.Sets.{shift_none}
use Rattle.judgement.proofs.question.past.Goals as goal

pub returns-then-n-lt64 : goal.returns-then-n-lt64
returns-then-n-lt64 c = ap not (shift_none c.args.word c.args.n)

pub returns-else-n-lt64 : goal.returns-else-n-lt64
returns-else-n-lt64 c =
    let a = c.args in
    let word : a.word < 2 ^ 64 = search rules in
    le-ltb a.n 64 c.if-n-lt64.false ∙ sym (ap not (lt-ltb a.word (2 ^ a.n) (omega (arith, word, pow_mono {i = 64} {j = a.n} c.if-n-lt64.false))))
