-- Where the two readings are refused, so is the writing; else the three copies are the chosen book, laid at the buffer's head.
-- No sum is too large, since a well-formed book has at most 3,976 bytes.
use Prim.Native.Nat.{◌+◌, ◌*◌}
use native.Mathlib.Omega.{arith}
use lib.ListN.{length-take}
use Rattle.book.specs.Writing.{chosen_of}
use Rattle.book.specs.Format.{good}
use Rattle.book.specs.Choice.{chosen}
use Rattle.book.proofs.Stages.{all_bytes}
use Rattle.book.proofs.Written.{reply_read}
use Rattle.std.proofs.lemmas.Result.{err_from_is_err_and}
use Rattle.book.proofs.Rewrites.{Rewriting, rewriting, refused_on, old_fit, old_low, total_low, new_held, rewritten, too_short}
use Rattle.book.proofs.write.write.Goals as goal
use Rattle.book.proofs.write.write.Goals.{In_ok-new}

-- once both are read, the new book is the old one's choice n
made : (c : In_ok-new) → Rewriting c.args.s.now c.args.n c.in_ok-old.old c.in_ok-new.new
made c = rewriting _ _ (omega arith) (all_bytes c.args.s.now (λ i. omega (arith, c.type_inv.s i))) c.in_ok-old.ensures c.in_ok-new.ensures

pub returns-in_err-new : goal.returns-in_err-new
returns-in_err-new c =
    let g = reply_read c.args.s.now (all_bytes c.args.s.now (λ i. omega (arith, c.type_inv.s i))) c.in_ok-old.ensures in
    let e = err_from_is_err_and c.from_residual-in_err-new.result c.from_residual-in_err-new.ensures.1 in
    rw (e.1, e.2, g.reads) (refused_on (chosen_of (good g.book) c.args.n) c.args.out.now (c.in_err-new.ensures g.book g.is.held g.is.fits))

pub overflow_add-old_end : goal.overflow_add-old_end
overflow_add-old_end c = omega (arith, old_low (made (goal.at.overflow_add-old_end c).In_ok-new) c.lightpaths_len.ensures)

pub overflow_add-new_end : goal.overflow_add-new_end
overflow_add-new_end c = omega (arith, total_low (made (goal.at.overflow_add-new_end c).In_ok-new) c.lightpaths_len.ensures c.lightpaths_len-2.ensures)

pub overflow_add-total : goal.overflow_add-total
overflow_add-total c = omega (arith, total_low (made (goal.at.overflow_add-total c).In_ok-new) c.lightpaths_len.ensures c.lightpaths_len-2.ensures)

pub slice_bounds-rest-count : goal.slice_bounds-rest-count
slice_bounds-rest-count c = old_fit (made (goal.at.slice_bounds-rest-count c).In_ok-new) c.lightpaths_len.ensures

pub slice_bounds-rest-start : goal.slice_bounds-rest-start
slice_bounds-rest-start c = old_fit (made (goal.at.slice_bounds-rest-start c).In_ok-new) c.lightpaths_len.ensures

pub returns-then-out-total : goal.returns-then-out-total
returns-then-out-total c =
    rw c.of.ensures (too_short (made (goal.at.returns-then-out-total c).In_ok-new) c.lightpaths_len.ensures c.lightpaths_len-2.ensures c.args.out.now c.if-out-total.true)

pub slice_bounds-put-end : goal.slice_bounds-put-end
slice_bounds-put-end c =
    let fit = old_fit (made (goal.at.slice_bounds-put-end c).In_ok-new) c.lightpaths_len.ensures in
    omega (arith, fit, length-take (6 + 3 * c.in_ok-old.old.nodes + 5 * c.in_ok-old.old.spans) c.args.s.now)

pub put_lightpaths-requires : goal.put_lightpaths-requires
put_lightpaths-requires c = (new_held (made (goal.at.put_lightpaths-requires c).In_ok-new), omega (arith, c.if-out-total.false, c.lightpaths_len-2.ensures))

pub returns : goal.returns
returns c =
    let h = made (goal.at.returns c).In_ok-new in
    let w = rewritten h c.lightpaths_len.ensures c.lightpaths_len-2.ensures c.args.out.now c.if-out-total.false in
    (w.0, rw (c.put-2.ensures, c.put_lightpaths.ensures (chosen h.book c.args.n) h.new_is h.new_fits, c.put.ensures) w.1)
