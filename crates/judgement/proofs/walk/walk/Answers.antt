-- Coming down, the walk has at each span the lowest of those behind it that parts the stations, and the pairs of all of them. When it has come to the first
-- span these are the lowest of all and the pairs of all.
use mathlib.Core.Path.{◌≡◌, sym, ap, ◌∙◌, subst}
use Prim.Native.Nat.{ℕ, ◌+◌, ◌-◌}
use native.Mathlib.Omega.{arith}
use Rattle.book.specs.declared.Book.{Book}
use Rattle.std.specs.Prelude.{Option, None}
use Rattle.judgement.specs.declared.kind.Parted.{Parted}
use Rattle.judgement.specs.Judgement.{sum}
use Rattle.judgement.specs.Inside.{side_in, parts_in, parted_at, cut_in, apart_on, apart_in}
use Rattle.judgement.proofs.Usable.{usable_lightpaths, usable_start}
use Rattle.judgement.proofs.First.{Back, back_start, back_hit, back_miss, back_end}
use Rattle.judgement.proofs.Sums.{sum_next, sum_none}
use Rattle.judgement.proofs.Apart.{apart_most}
use Rattle.judgement.proofs.Tests.{test_is}
use Rattle.judgement.proofs.walk.walk.Goals as goal
use Rattle.judgement.proofs.walk.walk.Goals.{After-loss_of-loss, then-ne, else-ne}

-- one span more: its side, its number, and the pairs so far
module _ (c : After-loss_of-loss) where
  abbrev b : Book
  b = c.args.b.now.book

  abbrev i : ℕ
  i = c.loop-i.i - 1

  next : i + 1 ≡ c.loop-i.i
  next = omega (arith, c.loop-i-test.true)

  abbrev Lowest : Option Parted → Type 0
  Lowest = Back (parts_in b c.args.words.now) (cut_in b c.args.words.now c.args.base) None c.args.count i

  side_is : c.loss_of-loss.result.side.mask ≡ side_in b c.args.words.now i
  side_is = let e = c.net-net.ensures in rw (e.0, e.1, e.2, c.stations-stations.ensures) at c.loss_of-loss.ensures.0

  pairs_are : c.loss_of-loss.result.pairs ≡ apart_on b.lightpaths b.from b.to c.args.words.now i
  pairs_are = let e = c.net-net.ensures in rw (e.0, e.1, e.2) at c.loss_of-loss.ensures.1

  counted : c.loop-i.pairs + c.loss_of-loss.result.pairs + apart_in b.lightpaths b.from b.to c.args.words.now i ≡ apart_in b.lightpaths b.from b.to c.args.words.now c.args.count
  counted =
      omega (
        arith,
        c.loop-i.invariant.1,
        pairs_are,
        sum_next (λ j. apart_on b.lightpaths b.from b.to c.args.words.now j) i,
        ap (λ (j : ℕ). apart_in b.lightpaths b.from b.to c.args.words.now j) next,
      )

pub loop-i-init : goal.loop-i-init
loop-i-init c = (back_start _ _ _ _, omega arith)

pub overflow_add-pairs : goal.overflow_add-pairs
overflow_add-pairs c =
    let b = c.args.b.now in
    omega (arith, counted (goal.at.overflow_add-pairs c).After-loss_of-loss, apart_most b.book.lightpaths b.book.from b.book.to c.args.words.now c.args.count (usable_lightpaths b.usable), c.requires.1)

pub loop-i-preserved : goal.loop-i-preserved
loop-i-preserved c =
    let l = c.loop-i in
    let g = (goal.at.loop-i-preserved c).After-loss_of-loss in (
      elim c.if-ne.branch [
        | then-ne w ↦ subst (Lowest g) (sym (w.cut-is ∙ ap (parted_at (c.args.base + i g)) (side_is g))) (back_hit _ _ _ l.invariant.0 (i g) (next g) (test_is w.if-ne.ensures (side_is g) c.stations-stations.ensures))
        | else-ne w ↦ subst (Lowest g) (sym w.cut-is) (back_miss _ _ _ l.invariant.0 (i g) (next g) (test_is w.if-ne.ensures (side_is g) c.stations-stations.ensures))
      ],
      counted g,
    )

pub returns : goal.returns
returns c =
    let l = c.loop-i in
    let b = c.args.b.now.book in
    let all : ℕ → ℕ = λ j. apart_on b.lightpaths b.from b.to c.args.words.now j in
    let z : l.i ≡ 0 = omega (arith, c.loop-i-test.false) in
    (back_end _ _ _ l.invariant.0 z, omega (arith, l.invariant.1, ap (sum all) z ∙ sum_none all 0 (λ j u. absurd (omega (arith, u)))))
