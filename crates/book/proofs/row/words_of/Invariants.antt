-- What is left of the route, put into the words so far, gives the words of the whole.
use mathlib.Core.Path.{◌≡◌}
use lib.ListN.{drop}
use Rattle.book.specs.Bits.{word_into, span_word}
use Rattle.book.proofs.row.words_of.Given as goal

abbrev pub invariant-loop-x : goal.invariant-loop-x
invariant-loop-x l = (span_word 0 l.route ≡ word_into 0 l.w.low (drop l.x-index l.route)) × (span_word 1 l.route ≡ word_into 1 l.w.high (drop l.x-index l.route))
