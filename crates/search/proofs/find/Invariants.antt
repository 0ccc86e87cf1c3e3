-- After n trials the choice at hand has the number n, and what is found is what is found among the choices left (Trying.antt).
-- The number of trials is below the limit and the number of choices, so that counting never leaves 32 bits.
use Rattle.search.proofs.Trying.{Trying}
use Rattle.search.proofs.find.Given as goal

abbrev pub invariant-loop-n : goal.invariant-loop-n
invariant-loop-n l = Trying l.b l.limit l.w l.total l.end l.c l.n
