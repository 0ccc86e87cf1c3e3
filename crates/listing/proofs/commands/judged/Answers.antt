-- What is told of the choice that was read, line after line, from no text on; the chosen book has as many choices as the book.
use mathlib.Core.Path.{refl, ap}
use mathlib.Core.List.{[], ◌++◌}
use native.Mathlib.Omega.{arith}
use Rattle.std.specs.Prelude.{Ok}
use Rattle.book.proofs.Stages.{all_bytes}
use Rattle.judgement.specs.Judgement.{verdict, score_f, score_fc}
use Rattle.judgement.specs.Answers.{judged_of}
use Rattle.judgement.specs.Sites.{closed_of}
use Rattle.judgement.specs.declared.Judged.{Judged}
use Rattle.judgement.proofs.Opened.{opened}
use Rattle.listing.specs.Report.{verdict_line, score_line, site_line}
use Rattle.listing.specs.Commands.{choice_line}
use Rattle.listing.proofs.Texts.{adds_then, adds_two, adds_as}
use Rattle.listing.proofs.Told.{answered, total_of}
use Rattle.listing.proofs.commands.judged.Goals as goal

pub returns : goal.returns
returns c =
    let a = c.args in
    let s = a.s.now in
    let o = opened s a.n (all_bytes s (λ i. omega (arith, c.type_inv.s i))) c.in_ok-b.ensures in
    let m = o.book in
    let which = adds_as (ap (choice_line a.n) (total_of m o.held o.fits c.of.ensures c.total-total.ensures)) c.choice_line.ensures in
    let j = answered judged_of o.is refl c.in_ok-judged.ensures in
    let d = answered closed_of o.is refl c.in_ok-down.ensures in
    let rest = adds_then (adds_as (ap site_line d) c.site_line.ensures) c.end_line.ensures in
    let judged = adds_as (ap (λ (x : Judged). verdict_line x.verdict ++ score_line x.f x.fc) j) c.judged_lines.ensures in
    let all = adds_then which (adds_two (verdict_line (verdict m)) (score_line (score_f m) (score_fc m)) judged rest) in
    rw o.is (ap Ok (all.shows [] c.none.ensures))
