-- The digits before i have gone back to 0, and stepping those from i on gives the whole.
-- The first digit with room ends the loop; if none has, all are 0.
use mathlib.Core.Path.{◌≡◌}
use mathlib.Core.List.{◌++◌}
use lib.ListN.{length, take, drop}
use Rattle.book.specs.Choice.{stepped}
use Rattle.book.specs.Moving.{capped}
use Rattle.book.proofs.choice.Choice.next.Given as goal

abbrev pub invariant-loop-i : goal.invariant-loop-i
invariant-loop-i l = record {
  eight : length l.c.digits ≡ 8;
  left : take l.i l.c.digits ++ stepped (drop l.i (capped l.more-items)) (drop l.i l.c.digits) ≡ stepped (capped l.more-items) l.initial.c.digits;
}
