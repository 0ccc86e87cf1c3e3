-- The digits found and the digits of what is left of the number make the digits of the number.
-- A remainder by a size is below 8, so it is a byte.
use mathlib.Core.Path.{◌≡◌}
use mathlib.Core.List.{◌++◌}
use lib.ListN.{length, take, drop}
use Rattle.book.specs.Choice.{digits}
use Rattle.book.specs.Moving.{capped}
use Rattle.book.proofs.choice.Choice.of.Given as goal

abbrev pub invariant-loop-i : goal.invariant-loop-i
invariant-loop-i l = record {
  eight : length l.digits ≡ 8;
  left : take l.i l.digits ++ digits (drop l.i (capped l.more-items)) l.rest ≡ digits (capped l.more-items) l.n;
}
