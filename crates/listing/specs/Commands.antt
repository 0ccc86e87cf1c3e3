-- What the commands print: docs/COMMANDS.md.
use Rattle.std.specs.Prelude.{ℕ, Bool, false, cond, List, [], ◌∷◌, ◌++◌, eqb, get_or, Result, Ok, Err, codes}
use Rattle.book.specs.Format.{Reading, good, refused}
use Rattle.book.specs.Choice.{choices}
use Rattle.book.specs.Memory.{fault_number}
use Rattle.book.specs.declared.refusal.Refusal.{Refusal}
use Rattle.judgement.specs.Judgement.{verdict, score_f, score_fc}
use Rattle.judgement.specs.Sites.{site_of}
use Rattle.judgement.specs.declared.Asked.{Asked}
use Rattle.search.specs.Search.{finding}
use Rattle.listing.specs.Report.{word_bad, line, side_line, end_line, bad_text, book_line, verdict_line, score_line, site_line, finding_line, moves_of}
use Rattle.listing.specs.declared.text.Text.{Text}

-- C3: the words, in ASCII
abbrev pub word_choice : List ℕ
word_choice = codes "CHOICE"

abbrev pub word_choices : List ℕ
word_choices = codes "CHOICES"

abbrev pub word_joined : List ℕ
word_joined = codes "JOINED"

abbrev pub word_parted : List ℕ
word_parted = codes "PARTED"

abbrev pub word_written : List ℕ
word_written = codes "WRITTEN"

-- C4: which choice of how many
abbrev pub choice_line : ℕ → ℕ → List ℕ
choice_line n t = line word_choice (n ∷ t ∷ [])

-- C4, C9: `judge`, by the reading of choice n: the chosen book has as many choices as the book
abbrev pub judge_of : ℕ → Reading → List ℕ
judge_of n (good c) = choice_line n (choices c) ++ (verdict_line (verdict c) ++ (score_line (score_f c) (score_fc c) ++ (site_line (site_of c) ++ end_line)))
judge_of n (refused k p) = bad_text k p

-- C5: who is joined with a span out, and whether these are all stations
abbrev pub joined_line : ℕ → Bool → List ℕ
joined_line d all = cond all (side_line word_joined [] d) (side_line word_parted [] d)

-- C5, C9: `open`, by the answer to the question about the span
abbrev pub open_of : Result Asked Refusal → List ℕ
open_of (Ok a) = joined_line a.side a.whole ++ end_line
open_of (Err r) = bad_text (fault_number r.fault) r.place

-- C6, C9: `search`
abbrev pub search_of : ℕ → Reading → List ℕ
search_of limit (good m) = (finding_line (finding m limit) ++ moves_of m (finding m limit)) ++ end_line
search_of limit (refused k p) = bad_text k p

-- C7: how many choices there are
abbrev pub choices_line : ℕ → List ℕ
choices_line t = line word_choices (t ∷ [])

-- C7, C9: `read`
abbrev pub read_of : Reading → List ℕ
read_of (good m) = book_line m ++ (choices_line (choices m) ++ end_line)
read_of (refused k p) = bad_text k p

-- C8: how many bytes were written
abbrev pub written_line : ℕ → List ℕ
written_line l = line word_written (l ∷ [])

-- C8, C9: `write`, by the writer's answer: a length, or a refusal's number and place
abbrev pub write_of : Result ℕ (ℕ × ℕ) → List ℕ
write_of (Ok l) = written_line l ++ end_line
write_of (Err r) = bad_text r.0 r.1

-- C10: whether an answer is a refusal, by its first two bytes: they are those of the word BAD, and of no other first word
abbrev pub is_refusal : Text → Bool
is_refusal t = cond (eqb (get_or t.bytes 0 0) (get_or word_bad 0 0)) (eqb (get_or t.bytes 1 0) (get_or word_bad 1 0)) false
