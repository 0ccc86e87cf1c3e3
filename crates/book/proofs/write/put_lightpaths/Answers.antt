-- The records of the first k lightpaths are laid into the buffer as it was, one behind another.
-- The route that is lent is that of lightpath k, of as many spans as its length says.
use native.Mathlib.Omega.{arith}
use Prim.Native.Nat.{◌*◌}
use lib.ListN.{get_or, drop, length-take}
use Rattle.book.proofs.Routes.{lent}
use Rattle.book.proofs.Writers.{held_few, held_short, putting_start, putting_room, putting_next}
use Rattle.book.proofs.write.put_lightpaths.Goals as goal

pub loop-k-init : goal.loop-k-init
loop-k-init c = record { few = held_few c.requires.0; put = putting_start _ _ _ }

pub put_lp-requires : goal.put_lp-requires
put_lp-requires c =
    let b = c.args.b.now in
    let l = c.loop-k in
    let n = get_or b.len l.k 0 in
    let room = putting_room _ _ _ l.invariant.put c.loop-k-test.true c.requires.1 c.requires.0 in
    rw (lent b.route (16 * l.k) n) (omega (arith, room, held_short c.requires.0 l.k c.loop-k-test.true, length-take n (drop (16 * l.k) b.route)))

pub loop-k-preserved : goal.loop-k-preserved
loop-k-preserved c =
    let b = c.args.b.now in
    let l = c.loop-k in
    rw c.put_lp.ensures record {
      few = l.invariant.few;
      put = putting_next _ _ _ l.invariant.put c.loop-k-test.true c.requires.1 _ (lent b.route (16 * l.k) (get_or b.len l.k 0));
    }
