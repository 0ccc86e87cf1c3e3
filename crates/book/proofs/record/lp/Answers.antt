-- An LP record is its mark, three fixed fields, the test of its ends and a route, so each answer is one of the cases of proofs/Routes.antt.
use mathlib.Core.Path.{refl, sym}
use Rattle.std.proofs.lemmas.Result.{err_from_is_err_and}
use Rattle.book.proofs.Routes.{lp_unfit, lp_stop, lp_whole}
use Rattle.book.proofs.record.lp.Goals as goal

pub returns-then-not-ends_fit : goal.returns-then-not-ends_fit
returns-then-not-ends_fit c = rw c.at.ensures (lp_unfit _ _ _ c.args.here.within c.in_ok-v.ensures.told (sym c.if-not-ends_fit.ensures))

pub returns-in_err-route : goal.returns-in_err-route
returns-in_err-route c =
    let p = err_from_is_err_and c.from_residual-in_err-route.result c.from_residual-in_err-route.ensures.1 in
    rw (p.1, p.2) (lp_stop _ _ _ c.args.here.within c.in_ok-v.ensures.told (sym c.if-not-ends_fit.ensures) c.in_err-route.ensures)

pub returns : goal.returns
returns c = lp_whole _ _ _ c.args.here.within c.in_ok-v.ensures.told (sym c.if-not-ends_fit.ensures) _ refl c.in_ok-route.ensures
