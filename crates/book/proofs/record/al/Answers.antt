-- An AL record is its mark, two fixed fields, the test of its lightpath and a route, so each answer is one of the cases of proofs/Routes.antt.
use mathlib.Core.Path.{refl, sym}
use Rattle.std.proofs.lemmas.Result.{err_from_is_err_and}
use Rattle.book.proofs.Routes.{al_unfit, al_stop, al_whole}
use Rattle.book.proofs.record.al.Goals as goal

pub returns-then-not-follows : goal.returns-then-not-follows
returns-then-not-follows c = rw c.at.ensures (al_unfit _ _ _ _ c.args.here.within c.in_ok-v.ensures.told (sym c.if-not-follows.ensures))

pub returns-in_err-route : goal.returns-in_err-route
returns-in_err-route c =
    let p = err_from_is_err_and c.from_residual-in_err-route.result c.from_residual-in_err-route.ensures.1 in
    rw (p.1, p.2) (al_stop _ _ _ _ c.args.here.within c.in_ok-v.ensures.told (sym c.if-not-follows.ensures) c.in_err-route.ensures)

pub returns : goal.returns
returns c = al_whole _ _ _ _ c.args.here.within c.in_ok-v.ensures.told (sym c.if-not-follows.ensures) _ refl c.in_ok-route.ensures
