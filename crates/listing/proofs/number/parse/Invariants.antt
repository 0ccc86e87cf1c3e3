-- What the first bytes are worth, taken on with the bytes that are left, is what the word is worth.
use Prim.Native.Nat.{◌^◌, ◌<◌}
use mathlib.Core.Path.{◌≡◌}
use lib.ListN.{drop}
use Rattle.listing.specs.Text.{worth_from, worth}
use Rattle.listing.proofs.number.parse.Given as goal

abbrev pub invariant-loop-c : goal.invariant-loop-c
invariant-loop-c l = (l.n < 2 ^ 32) × (worth_from 10 l.n (drop l.c-index l.word) ≡ worth 10 l.word)
