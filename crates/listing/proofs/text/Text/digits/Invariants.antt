-- With i digits left, what is written are the digits of the number divided by that power of the base.
use Rattle.listing.proofs.Spelling.{Spelled}
use Rattle.listing.proofs.text.Text.digits.Given as goal

abbrev pub invariant-loop-i : goal.invariant-loop-i
invariant-loop-i l = Spelled l.initial.t l.n l.base l.k l.i l.t
