-- The report on a book, line by line: docs/REPORT.md.
use Rattle.std.specs.Prelude.{ℕ, zero, suc, cond, List, [], ◌∷◌, ◌++◌, eqb, length, get_or, Option, codes}
use Rattle.std.specs.Prelude as option
use Rattle.book.specs.Book.{RouteBook}
use Rattle.book.specs.Format.{Reading, good, refused}
use Rattle.book.specs.Choice.{movable, sizes, digits, chosen}
use Rattle.judgement.specs.Judgement.{verdict, score_f, score_fc}
use Rattle.judgement.specs.declared.Verdict.{Verdict}
use Rattle.judgement.specs.declared.Verdict.TheVariants.{Over, Split, Cut, Okay}
use Rattle.judgement.specs.Sites.{site_of}
use Rattle.judgement.specs.declared.Down.{Down}
use Rattle.search.specs.Search.{finding}
use Rattle.search.specs.declared.Finding.{Finding}
use Rattle.search.specs.declared.Finding.TheVariants.{Found, None, More}
use Rattle.listing.specs.Text.{decimal, hex}

-- R1: the words, in ASCII
abbrev pub word_book : List ℕ
word_book = codes "BOOK"

abbrev pub word_over : List ℕ
word_over = codes "OVER"

abbrev pub word_split : List ℕ
word_split = codes "SPLIT"

abbrev pub word_cut : List ℕ
word_cut = codes "CUT"

abbrev pub word_ok : List ℕ
word_ok = codes "OK"

abbrev pub word_score : List ℕ
word_score = codes "SCORE"

abbrev pub word_site : List ℕ
word_site = codes "SITE"

abbrev pub word_found : List ℕ
word_found = codes "FOUND"

abbrev pub word_none : List ℕ
word_none = codes "NONE"

abbrev pub word_more : List ℕ
word_more = codes "MORE"

abbrev pub word_move : List ℕ
word_move = codes "MOVE"

abbrev pub word_bad : List ℕ
word_bad = codes "BAD"

abbrev pub word_end : List ℕ
word_end = codes "END"

-- R1: a line is a word, numbers with a blank before each, and the end of the line; or the same with a side behind the numbers
abbrev pub numbers : List ℕ → List ℕ → List ℕ
numbers [] rest = rest
numbers (n ∷ ns) rest = (32 ∷ decimal n) ++ numbers ns rest

abbrev pub line : List ℕ → List ℕ → List ℕ
line w ns = w ++ numbers ns (10 ∷ [])

abbrev pub side_line : List ℕ → List ℕ → ℕ → List ℕ
side_line w ns d = w ++ numbers ns ((32 ∷ hex d) ++ 10 ∷ [])

-- R3: what the book has
abbrev pub book_line : RouteBook → List ℕ
book_line m = line word_book (length m.nodes ∷ length m.spans ∷ length m.lightpaths ∷ length m.alternatives ∷ [])

-- R4: the verdict
abbrev pub verdict_line : Verdict → List ℕ
verdict_line (Over x l w) = line word_over (x ∷ l ∷ w ∷ [])
verdict_line (Split d) = side_line word_split [] d
verdict_line (Cut x d) = side_line word_cut (x ∷ []) d
verdict_line Okay = line word_ok []

-- R5: the score
abbrev pub score_line : ℕ → ℕ → List ℕ
score_line f c = line word_score (f ∷ c ∷ [])

-- R9: the node whose closing parts the others, or the words `SITE OK`
abbrev pub site_line : Option Down → List ℕ
site_line (option.Some a) = side_line word_site (a.node ∷ []) a.side
site_line option.None = line (word_site ++ 32 ∷ word_ok) []

-- R6: what the search found
abbrev pub finding_line : Finding → List ℕ
finding_line (Found n t) = line word_found (n ∷ t ∷ [])
finding_line (None t) = line word_none (t ∷ [])
finding_line (More b t) = line word_more (b ∷ t ∷ [])

-- R7: one line for each digit above 0, in rising lightpath number: the first i digits of a choice, given the movable lightpaths
abbrev pub move_line : ℕ → ℕ → List ℕ
move_line k d = cond (eqb d 0) [] (line word_move (k ∷ d ∷ []))

unfoldable pub move_lines : List ℕ → List ℕ → ℕ → List ℕ
move_lines ks ds zero = []
move_lines ks ds (suc i) = move_lines ks ds i ++ move_line (get_or ks i 0) (get_or ds i 0)

abbrev pub moves_of : RouteBook → Finding → List ℕ
moves_of m (Found n t) = move_lines (movable m) (digits (sizes m) n) 8
moves_of m (None t) = []
moves_of m (More b t) = []

-- R2: the last line
abbrev pub end_line : List ℕ
end_line = line word_end []

-- R8: a refusal
abbrev pub bad_line : ℕ → ℕ → List ℕ
bad_line k p = line word_bad (k ∷ p ∷ [])

abbrev pub bad_text : ℕ → ℕ → List ℕ
bad_text k p = bad_line k p ++ end_line

-- R2: the trial limit of the report
abbrev pub report_limit : ℕ
report_limit = 65536

-- R2, R8: the report
abbrev pub report_of : Reading → List ℕ
report_of (good m) =
    book_line m
    ++ (verdict_line (verdict (chosen m 0))
    ++ (score_line (score_f (chosen m 0)) (score_fc (chosen m 0))
    ++ (site_line (site_of (chosen m 0))
    ++ ((finding_line (finding m report_limit) ++ moves_of m (finding m report_limit)) ++ end_line))))
report_of (refused k p) = bad_text k p
