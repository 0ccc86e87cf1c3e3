-- The text has the bytes of the word so far more.
use lib.ListN.{take}
use Rattle.listing.specs.Inside.{Adds}
use Rattle.listing.proofs.text.Text.word.Given as goal

abbrev pub invariant-loop-c : goal.invariant-loop-c
invariant-loop-c l = Adds l.initial.t (take l.c-index l.w) l.t
