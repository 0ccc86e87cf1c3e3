-- A book that was read has a choice 0, so that nothing is refused any more; and the text is line after line, from no text on.
use mathlib.Core.Path.{◌≡◌, refl, ap, ◌∙◌}
use mathlib.Core.List.{[], ◌++◌}
use native.Mathlib.Omega.{arith}
use Rattle.std.specs.Prelude.{Ok}
use Rattle.book.specs.Format.{Reading, reading, good}
use Rattle.book.specs.Choice.{chosen}
use Rattle.book.specs.Writing.{chosen_of}
use Rattle.book.proofs.Stages.{all_bytes}
use Rattle.book.proofs.Written.{GoodRead, reply_read}
use Rattle.judgement.specs.Judgement.{verdict, score_f, score_fc}
use Rattle.judgement.specs.Answers.{judged_of}
use Rattle.judgement.specs.Sites.{closed_of}
use Rattle.judgement.specs.declared.Judged.{Judged}
use Rattle.search.specs.declared.Finding.{Finding}
use Rattle.search.specs.Answers.{searched_of}
use Rattle.listing.specs.Report.{verdict_line, score_line, site_line, finding_line, moves_of, report_limit}
use Rattle.listing.proofs.Texts.{adds_then, adds_two, adds_as}
use Rattle.listing.proofs.Told.{answered, unrefused, first_choice}
use Rattle.listing.proofs.reported.Goals as goal
use Rattle.listing.proofs.reported.Goals.{In_ok-b}

module _ (c : In_ok-b) where
  book : GoodRead c.args.s.now c.in_ok-b.b
  book = reply_read c.args.s.now (all_bytes c.args.s.now (λ i. omega (arith, c.type_inv.s i))) c.in_ok-b.ensures

  first : chosen_of (reading c.args.s.now) 0 ≡ good (chosen book.book 0)
  first = ap (λ (g : Reading). chosen_of g 0) book.reads ∙ first_choice book.book book.is.fits

pub returns-in_err-judged : goal.returns-in_err-judged
returns-in_err-judged c = absurd (unrefused judged_of (first (goal.at.returns-in_err-judged c).In_ok-b) refl c.in_err-judged.ensures)

pub returns : goal.returns
returns c =
    let at = (goal.at.returns c).In_ok-b in
    let m = (book at).book in
    let j = answered judged_of (first at) refl c.in_ok-judged.ensures in
    let d = answered closed_of (first at) refl c.in_ok-down.ensures in
    let f = answered (λ g. searched_of g report_limit) (book at).reads refl c.in_ok-finding.ensures in
    let found = adds_as (ap (λ (x : Finding). finding_line x ++ moves_of m x) f) (c.finding_lines.ensures m (book at).is.held (book at).is.fits) in
    let rest = adds_then (adds_as (ap site_line d) c.site_line.ensures) (adds_then found c.end_line.ensures) in
    let judged = adds_as (ap (λ (x : Judged). verdict_line x.verdict ++ score_line x.f x.fc) j) c.judged_lines.ensures in
    let all = adds_then (c.book_line.ensures m (book at).is.held) (adds_two (verdict_line (verdict (chosen m 0))) (score_line (score_f (chosen m 0)) (score_fc (chosen m 0))) judged rest) in
    rw (book at).reads (ap Ok (all.shows [] c.none.ensures))
