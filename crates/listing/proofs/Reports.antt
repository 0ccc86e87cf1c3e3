-- How long the lines of a report are: it is short, so that it is kept whole.
use mathlib.Core.Path.{◌≡◌}
use mathlib.Core.Bool.{Bool, true, false, cond}
use mathlib.Core.List.{List, [], ◌∷◌, ◌++◌}
use Prim.Native.Nat.{ℕ, zero, suc, ◌+◌, ◌*◌, ◌≤◌}
use native.Mathlib.Omega.{arith}
use lib.Dec.{eqb}
use lib.ListN.{length, get_or, take, length-append}
use Rattle.book.specs.Book.{RouteBook}
use Rattle.book.specs.Format.{Reading, reading, good, refused}
use Rattle.book.specs.Choice.{movable, sizes, digits, chosen}
use Rattle.judgement.specs.Judgement.{verdict, score_f, score_fc}
use Rattle.judgement.specs.Sites.{site_of}
use Rattle.judgement.specs.declared.Verdict.{Verdict}
use Rattle.judgement.specs.declared.Verdict.TheVariants.{Over, Split, Cut, Okay}
use Rattle.judgement.specs.declared.Down.{Down}
use Rattle.std.specs.Prelude.{Option}
use Rattle.std.specs.Prelude as option
use Rattle.search.specs.Search.{finding}
use Rattle.search.specs.declared.Finding.{Finding}
use Rattle.search.specs.declared.Finding.TheVariants.{Found, None, More}
use Rattle.listing.specs.Text.{decimal, hex, text_of}
use Rattle.listing.specs.Report.{word_book, word_over, word_split, word_cut, word_score, word_site, word_found, word_none, word_more, word_move, word_bad, numbers, line, side_line}
use Rattle.listing.specs.Report.{book_line, verdict_line, score_line, site_line, finding_line, move_line, move_lines, moves_of, end_line, bad_line, bad_text, report_limit, report_of}
use Rattle.listing.specs.declared.text.Text.{Text}
use Rattle.listing.proofs.Texts.{text_whole}
use Rattle.listing.proofs.Spelling.{spelled_long, decimal_short}

-- THE REPORT IS SHORT: a number takes at most 20 digits, so that no line is longer than 89 bytes and the report never longer than 676
module _ (w : List ℕ) where
  pub behind_short : (ns rest : List ℕ) → length (w ++ numbers ns rest) ≤ length w + 21 * length ns + length rest
  behind_short ns rest = omega (arith, length-append w (numbers ns rest), go ns)
    where
      go : (ns : List ℕ) → length (numbers ns rest) ≤ 21 * length ns + length rest
      go [] = omega arith
      go (n ∷ ns) = omega (arith, length-append (decimal n) (numbers ns rest), decimal_short n, go ns)

  pub side_short : (ns : List ℕ) (d : ℕ) → length (side_line w ns d) ≤ length w + 21 * length ns + 18
  side_short ns d = omega (arith, behind_short ns ((32 ∷ hex d) ++ 10 ∷ []), length-append (hex d) (10 ∷ []), spelled_long 16 16 d)

pub verdict_short : (v : Verdict) → length (verdict_line v) ≤ 68
verdict_short (Over x l k) = omega (arith, behind_short word_over (x ∷ l ∷ k ∷ []) (10 ∷ []))
verdict_short (Split d) = omega (arith, side_short word_split [] d)
verdict_short (Cut x d) = omega (arith, side_short word_cut (x ∷ []) d)
verdict_short Okay = omega arith

pub site_short : (a : Option Down) → length (site_line a) ≤ 43
site_short (option.Some a) = omega (arith, side_short word_site (a.node ∷ []) a.side)
site_short option.None = omega arith

pub finding_short : (f : Finding) → length (finding_line f) ≤ 48
finding_short (Found n t) = omega (arith, behind_short word_found (n ∷ t ∷ []) (10 ∷ []))
finding_short (None t) = omega (arith, behind_short word_none (t ∷ []) (10 ∷ []))
finding_short (More b t) = omega (arith, behind_short word_more (b ∷ t ∷ []) (10 ∷ []))

moves_short : (ks ds : List ℕ) (i : ℕ) → length (move_lines ks ds i) ≤ 47 * i
unfolding move_lines
moves_short ks ds zero = omega arith
moves_short ks ds (suc i) =
    let d = get_or ds i 0 in
    omega (arith, length-append (move_lines ks ds i) (move_line (get_or ks i 0) d), moves_short ks ds i, one (get_or ks i 0) d (eqb d 0))
  where
    one : (k d : ℕ) (t : Bool) → length (cond t [] (line word_move (k ∷ d ∷ []))) ≤ 47
    one k d true = omega arith
    one k d false = behind_short word_move (k ∷ d ∷ []) (10 ∷ [])

pub moved_short : (m : RouteBook) (f : Finding) → length (moves_of m f) ≤ 376
moved_short m (Found n t) = omega (arith, moves_short (movable m) (digits (sizes m) n) 8)
moved_short m (None t) = omega arith
moved_short m (More b t) = omega arith

pub bad_short : (k p : ℕ) → length (bad_text k p) ≤ 50
bad_short k p = omega (arith, length-append (bad_line k p) end_line, behind_short word_bad (k ∷ p ∷ []) (10 ∷ []))

pub report_short : (g : Reading) → length (report_of g) ≤ 676
report_short (good m) =
    let c = chosen m 0 in
    let f = finding m report_limit in
    let found = (finding_line f ++ moves_of m f) ++ end_line in
    let closed = site_line (site_of c) ++ found in
    let scored = score_line (score_f c) (score_fc c) ++ closed in
    omega (
      arith,
      behind_short word_book (length m.nodes ∷ length m.spans ∷ length m.lightpaths ∷ length m.alternatives ∷ []) (10 ∷ []),
      behind_short word_score (score_f c ∷ score_fc c ∷ []) (10 ∷ []),
      verdict_short (verdict c),
      site_short (site_of c),
      finding_short f,
      moved_short m f,
      length-append (book_line m) (verdict_line (verdict c) ++ scored),
      length-append (verdict_line (verdict c)) scored,
      length-append (score_line (score_f c) (score_fc c)) closed,
      length-append (site_line (site_of c)) found,
      length-append (finding_line f ++ moves_of m f) end_line,
      length-append (finding_line f) (moves_of m f),
    )
report_short (refused k p) = omega (arith, bad_short k p)

-- so the text that is handed back is the whole report
pub report_whole : (s : List ℕ) (t : Text) → t ≡ text_of (report_of (reading s)) → take t.len t.bytes ≡ report_of (reading s)
report_whole s t e = text_whole (report_of (reading s)) (omega (arith, report_short (reading s))) e
