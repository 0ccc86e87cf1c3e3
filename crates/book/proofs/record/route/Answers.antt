-- The tests come in the order length, bytes, span numbers, walk, so each answer is one of the cases of proofs/Routes.antt.
-- The spans are lent to the last two as the part of the book where they stand.
use native.Mathlib.Omega.{arith}
use Prim.Native.Nat.{◌+◌, ◌≤◌}
use mathlib.Core.Path.{◌≡◌, sym}
use mathlib.Core.Bool.{true}
use lib.ListN.{length, take, drop}
use Rattle.std.specs.Prelude.{None}
use Rattle.book.specs.Book.{length_fits}
use Rattle.book.proofs.Steps.{lent}
use Rattle.book.proofs.Walking.{HighAt, high_at, below_wider}
use Rattle.book.proofs.Routes.{no_length, no_torn, no_high, no_walk, no_fault}
use Rattle.book.proofs.record.route.Goals as goal
use Rattle.book.proofs.record.route.Goals.{Else-s-start, In_default}

-- the length fits, and the spans are there
module _ (c : Else-s-start) where
  fits : length_fits c.args.len ≡ true
  fits = sym c.if-not-length_fits.ensures

  there : c.args.start + c.args.len ≤ length c.args.here.s.now
  there = omega (arith, c.if-s-start.false, c.requires.1)

pub returns-in-Some : goal.returns-in-Some
returns-in-Some c =
    let x = c.args in
    rw c.at-in-Some.ensures
    (no_high _ _ _ _ _ _ c.args.here.within (fits (goal.at.returns-in-Some c).Else-s-start) (there (goal.at.returns-in-Some c).Else-s-start) _
    (high_at _ _ _ (rw (lent x.here.s.now x.start x.len) at c.in-Some.ensures)))

-- no number is too high
module _ (c : In_default) where
  low : HighAt c.args.network.book.now.spans (take c.args.len (drop c.args.start c.args.here.s.now)) None
  low = high_at _ _ _ (rw (lent c.args.here.s.now c.args.start c.args.len) at c.in_default.ensures)

pub first_stray-requires : goal.first_stray-requires
first_stray-requires c =
    let x = c.args in
    let h : HighAt x.network.book.now.spans (take x.len (drop x.start x.here.s.now)) None = low (goal.at.first_stray-requires c).In_default in
    (rw (lent x.here.s.now x.start x.len) (below_wider x.network.book.now.spans 128 _ x.network.held.spans_few h), c.requires.0)

pub returns-in-Some-first_stray : goal.returns-in-Some-first_stray
returns-in-Some-first_stray c =
    let x = c.args in
    let w = rw (lent x.here.s.now x.start x.len) at c.in-Some-first_stray.ensures in
    rw c.at-in-Some-first_stray.ensures
    (no_walk _ _ _ _ _ _ c.args.here.within (fits (goal.at.returns-in-Some-first_stray c).Else-s-start) (there (goal.at.returns-in-Some-first_stray c).Else-s-start)
    (low (goal.at.returns-in-Some-first_stray c).In_default) _ w.0 w.1)

pub returns : goal.returns
returns c =
    let x = c.args in
    rw (lent x.here.s.now x.start x.len)
    (no_fault _ _ _ _ _ _ c.args.here.within (fits (goal.at.returns c).Else-s-start) (there (goal.at.returns c).Else-s-start) (low (goal.at.returns c).In_default)
    (rw (lent x.here.s.now x.start x.len) at c.in_default-first_stray.ensures.0))
