-- One byte more of the source at its place is one more of the run that is laid over the buffer.
use native.Mathlib.Omega.{arith}
use native.Mathlib.Numerals.{add-one}
use mathlib.Core.Path.{sym, ap, ◌∙◌}
use mathlib.Core.List.{List}
use Prim.Native.Nat.{ℕ, ◌+◌}
use lib.ListN.{set, get_or, length-set}
use lib.Seq.{paste, paste-suc}
use Rattle.book.proofs.copy.put.Goals as goal

pub loop-i-preserved : goal.loop-i-preserved
loop-i-preserved c =
    let a = c.args in
    let l = c.loop-i in (
      length-set l.out _ _ ∙ l.invariant.0,
      ap (λ (d : List ℕ). set d (a.at + l.i) (get_or a.src.now l.i 0)) l.invariant.1
          ∙ paste-suc a.out.now a.at a.src.now l.i 0 (omega arith) (omega arith) ∙ ap (paste a.out.now a.at a.src.now) (sym (add-one l.i)),
    )
