-- What the commands print by the answers of the operations is what they print by the reading of the book; and each text is short, so that it is kept whole.
use Prim.Native.Nat.{ℕ, ◌≤◌}
use mathlib.Core.Path.{◌≡◌, sym, ap, ◌∙◌}
use mathlib.Core.Bool.{Bool, true, false}
use mathlib.Core.List.{List, [], ◌∷◌, ◌++◌}
use native.Mathlib.Omega.{arith}
use lib.ListN.{length, take, length-append}
use Rattle.book.specs.declared.refusal.Refusal.{Refusal}
use Rattle.book.specs.Memory.{fault_number, number_of}
use Rattle.std.specs.Prelude.{Result, Ok, Err}
use Rattle.book.specs.Book.{RouteBook, well_formed}
use Rattle.book.specs.Format.{Reading, reading, good, refused}
use Rattle.book.specs.Choice.{product, sizes, digits, choices, chosen}
use Rattle.book.specs.Writing.{chosen_of, writing, written_of, written_length, buffer}
use Rattle.book.proofs.Readers.{Bytes}
use Rattle.book.proofs.Unique.{refused_within}
use Rattle.book.proofs.Format.{reading_only}
use Rattle.book.proofs.Choices.{choices_some}
use Rattle.book.proofs.Chosen.{choice_fits, chosen_sizes, chosen_none}
use Rattle.book.proofs.Written.{such_a_choice}
use Rattle.book.proofs.ReadBack.{Denied, at_fault, no_choice, no_room, number_served, number_denied, room_enough}
use Rattle.judgement.specs.Judgement.{verdict, score_f, score_fc}
use Rattle.judgement.specs.Answers.{asked_of}
use Rattle.judgement.specs.Sites.{site_of}
use Rattle.judgement.specs.declared.Asked.{Asked}
use Rattle.search.specs.Search.{finding}
use Rattle.listing.specs.Text.{text_of}
use Rattle.listing.specs.Report.{word_book, word_score, book_line, verdict_line, score_line, site_line, finding_line, moves_of, end_line, bad_text}
use Rattle.listing.specs.Commands.{word_choice, word_choices, word_joined, word_parted, word_written, choice_line, joined_line, choices_line, written_line}
use Rattle.listing.specs.Commands.{judge_of, open_of, search_of, read_of, write_of}
use Rattle.listing.specs.declared.text.Text.{Text}
use Rattle.listing.proofs.Texts.{text_whole}
use Rattle.listing.proofs.Reports.{behind_short, side_short, verdict_short, site_short, finding_short, moved_short, bad_short}

-- the chosen book has as many choices as the book: T is the book's
pub choices_kept : (m : RouteBook) (n : ℕ) → choices (chosen m n) ≡ choices m
choices_kept m n = ap product (chosen_sizes m (digits (sizes m) n))

-- WRITTEN AND ASKED AGAIN: r is the answer of `write` for choice n of the bytes s, and x the buffer `out` afterwards
module _ (s : List ℕ) (n : ℕ) (out : List ℕ) (r : Result ℕ Refusal) (x : List ℕ) (h : Bytes s)
    (met : (r ≡ written_of (writing s n (length out))) × (x ≡ buffer (writing s n (length out)) out)) where
  -- reading choice 0 of what was written is reading choice n, so every command says the same of both
  pub written_same : number_of r ≡ 0 → chosen_of (reading (take (written_length r) x)) 0 ≡ chosen_of (reading s) n
  written_same z =
      let b = number_served s n out r x h met z in
      let m = b.book in
      let c = chosen m n in
      let fits : well_formed c ≡ true = choice_fits m n (reading_only s m h b.reads).1 in
      ap (λ (g : Reading). chosen_of g 0) b.back
      ∙ such_a_choice c 0 (choices_some c fits)
      ∙ ap good (chosen_none c)
      ∙ sym (ap (λ (g : Reading). chosen_of g n) b.reads ∙ such_a_choice m n b.below)

  -- a buffer of 4,096 bytes is never too short
  pub never_eleven : length out ≡ 4096 → number_of r ≡ 11 → ⊥
  never_eleven l e = go (number_denied s n out r x h met (λ z. omega (arith, z, e))).0 e
    where
      go : {k p : ℕ} → Denied s n (length out) k p → k ≡ 11 → ⊥
      go (at_fault q) u = omega (arith, (refused_within s _ _ h q).1)
      go (no_choice m q g) u = omega arith
      go (no_room m q g f) u = omega (arith, f, room_enough m n (reading_only s m h q).1)

-- EACH TEXT IS SHORT: no longer than a FOUND with eight moves
pub judge_short : (n : ℕ) (g : Reading) → length (judge_of n g) ≤ 428
judge_short n (good c) =
    let closed = site_line (site_of c) ++ end_line in
    let scored = score_line (score_f c) (score_fc c) ++ closed in
    omega (
      arith,
      behind_short word_choice (n ∷ choices c ∷ []) (10 ∷ []),
      verdict_short (verdict c),
      behind_short word_score (score_f c ∷ score_fc c ∷ []) (10 ∷ []),
      site_short (site_of c),
      length-append (choice_line n (choices c)) (verdict_line (verdict c) ++ scored),
      length-append (verdict_line (verdict c)) scored,
      length-append (score_line (score_f c) (score_fc c)) closed,
      length-append (site_line (site_of c)) end_line,
    )
judge_short n (refused k p) = omega (arith, bad_short k p)

pub open_short : (a : Result Asked Refusal) → length (open_of a) ≤ 428
open_short (Ok a) = omega (arith, length-append (joined_line a.side a.whole) end_line, go a.whole)
  where
    go : (t : Bool) → length (joined_line a.side t) ≤ 24
    go true = side_short word_joined [] a.side
    go false = side_short word_parted [] a.side
open_short (Err r) = omega (arith, bad_short (fault_number r.fault) r.place)

pub search_short : (limit : ℕ) (g : Reading) → length (search_of limit g) ≤ 428
search_short limit (good m) =
    let f = finding m limit in
    omega (arith, length-append (finding_line f ++ moves_of m f) end_line, length-append (finding_line f) (moves_of m f), finding_short f, moved_short m f)
search_short limit (refused k p) = omega (arith, bad_short k p)

pub read_short : (g : Reading) → length (read_of g) ≤ 428
read_short (good m) =
    omega (
      arith,
      behind_short word_book (length m.nodes ∷ length m.spans ∷ length m.lightpaths ∷ length m.alternatives ∷ []) (10 ∷ []),
      behind_short word_choices (choices m ∷ []) (10 ∷ []),
      length-append (book_line m) (choices_line (choices m) ++ end_line),
      length-append (choices_line (choices m)) end_line,
    )
read_short (refused k p) = omega (arith, bad_short k p)

pub written_short : (w : Result ℕ (ℕ × ℕ)) → length (write_of w) ≤ 428
written_short (Ok l) = omega (arith, length-append (written_line l) end_line, behind_short word_written (l ∷ []) (10 ∷ []))
written_short (Err r) = omega (arith, bad_short r.0 r.1)

-- so the text that is handed back is all that there is to print
module _ (s : List ℕ) (n : ℕ) (t : Text) where
  pub judge_whole : t ≡ text_of (judge_of n (chosen_of (reading s) n)) → take t.len t.bytes ≡ judge_of n (chosen_of (reading s) n)
  judge_whole e = text_whole _ (omega (arith, judge_short n (chosen_of (reading s) n))) e

  pub open_whole : (x : ℕ) → t ≡ text_of (open_of (asked_of (chosen_of (reading s) n) x)) → take t.len t.bytes ≡ open_of (asked_of (chosen_of (reading s) n) x)
  open_whole x e = text_whole _ (omega (arith, open_short (asked_of (chosen_of (reading s) n) x))) e

  pub search_whole : t ≡ text_of (search_of n (reading s)) → take t.len t.bytes ≡ search_of n (reading s)
  search_whole e = text_whole _ (omega (arith, search_short n (reading s))) e

module _ (t : Text) where
  pub read_whole : (s : List ℕ) → t ≡ text_of (read_of (reading s)) → take t.len t.bytes ≡ read_of (reading s)
  read_whole s e = text_whole _ (omega (arith, read_short (reading s))) e

  pub written_whole : (w : Result ℕ (ℕ × ℕ)) → t ≡ text_of (write_of w) → take t.len t.bytes ≡ write_of w
  written_whole w e = text_whole _ (omega (arith, written_short w)) e

  pub refused_whole : (k p : ℕ) → t ≡ text_of (bad_text k p) → take t.len t.bytes ≡ bad_text k p
  refused_whole k p e = text_whole _ (omega (arith, bad_short k p)) e
