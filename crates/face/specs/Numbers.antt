-- The nine numbers of an answer, and the slice that they are stored in: docs/FACE.md.
use Rattle.std.specs.Prelude.{ℕ, Bool, cond, List, [], ◌∷◌, ◌++◌, length, drop, leb, Option, Result, Ok, Err}
use Rattle.book.specs.Format.{Reading, good, refused}
use Rattle.book.specs.Memory.{book_of, fault_number, number_of, place_of}
use Rattle.book.specs.Writing.{written_length}
use Rattle.book.specs.declared.Book.{Book}
use Rattle.book.specs.declared.refusal.Refusal.{Refusal}
use Rattle.judgement.specs.Answers.{judged, judged_numbers, asked_numbers}
use Rattle.judgement.specs.Sites.{closed_numbers}
use Rattle.search.specs.Answers.{searched_numbers}
use Rattle.judgement.specs.declared.Verdict.{Verdict}
use Rattle.judgement.specs.declared.Verdict.TheVariants.{Over, Split, Cut, Okay}
use Rattle.judgement.specs.declared.Judged.{Judged}
use Rattle.judgement.specs.declared.Contracted.{Contracted}
use Rattle.judgement.specs.declared.Down.{Down}
use Rattle.judgement.specs.declared.Asked.{Asked}
use Rattle.search.specs.declared.Finding.{Finding}
use Rattle.search.specs.declared.Finding.TheVariants.{Found, None, More}
use Rattle.std.specs.declared.option.Option.TheVariants as option

-- F1: whether there is room for nine numbers
abbrev pub roomy : List ℕ → Bool
roomy out = leb 9 (length out)

-- F1, F2: the slice afterwards: the numbers and what stood beyond them; or all as it was
abbrev pub stored : List ℕ → List ℕ → List ℕ
stored told out = cond (roomy out) (told ++ drop 9 out) out

-- F3, F4: a kind, the number and place of a refusal, and what the answer carries
abbrev pub refused_row : ℕ → ℕ → List ℕ
refused_row k p = 0 ∷ k ∷ p ∷ 0 ∷ 0 ∷ 0 ∷ 0 ∷ 0 ∷ 0 ∷ []

-- F3: the numbers of an operation's answer: of a refusal, or of what it tells
abbrev pub answered_row : {A : Type 0} → (A → List ℕ) → Result A Refusal → List ℕ
answered_row row (Ok a) = row a
answered_row row (Err r) = refused_row (fault_number r.fault) r.place

-- F5: what the book has
abbrev pub book_row : Book → List ℕ
book_row b = 1 ∷ 0 ∷ 0 ∷ b.nodes ∷ b.spans ∷ b.lightpaths ∷ b.alternatives ∷ b.stations ∷ 0 ∷ []

abbrev pub read_row : Reading → List ℕ
read_row (good m) = book_row (book_of m)
read_row (refused k p) = refused_row k p

-- F6: the verdict: span, load, limit and side, and two numbers behind them
abbrev pub verdict_kind : Verdict → ℕ
verdict_kind (Over x l w) = 1
verdict_kind (Split d) = 2
verdict_kind (Cut x d) = 3
verdict_kind Okay = 4

abbrev pub verdict_row : Verdict → ℕ → ℕ → List ℕ
verdict_row v a b =
    let n = judged_numbers (Ok (judged v a b)) in
    verdict_kind v ∷ n.number ∷ n.place ∷ n.span ∷ n.load ∷ n.limit ∷ n.side ∷ n.f ∷ n.fc ∷ []

-- F6, F7: the verdict and the score
abbrev pub judgement_row : Judged → List ℕ
judgement_row j = verdict_row j.verdict j.f j.fc

abbrev pub judged_row : Result Judged Refusal → List ℕ
judged_row = answered_row judgement_row

-- F11: the verdict of the second engine, and how many merges it made
abbrev pub contraction_row : Contracted → List ℕ
contraction_row c = verdict_row c.verdict c.merges 0

abbrev pub contracted_row : Result Contracted Refusal → List ℕ
contracted_row = answered_row contraction_row

-- F12: what closing a node does: the node and the side
abbrev pub site_kind : Option Down → ℕ
site_kind (option.Some d) = 1
site_kind option.None = 2

abbrev pub site_row : Option Down → List ℕ
site_row s =
    let n = closed_numbers (Ok s) in
    site_kind s ∷ n.number ∷ n.place ∷ n.node ∷ n.side ∷ 0 ∷ 0 ∷ 0 ∷ 0 ∷ []

abbrev pub closed_row : Result (Option Down) Refusal → List ℕ
closed_row = answered_row site_row

-- F8, F13: the question about a span, and about a set of spans
abbrev pub side_row : Asked → List ℕ
side_row a =
    let n = asked_numbers (Ok a) in
    1 ∷ n.number ∷ n.place ∷ n.side ∷ cond n.all 1 0 ∷ 0 ∷ 0 ∷ 0 ∷ 0 ∷ []

abbrev pub asked_row : Result Asked Refusal → List ℕ
asked_row = answered_row side_row

-- F9: what was found
abbrev pub finding_kind : Finding → ℕ
finding_kind (Found n t) = 1
finding_kind (None t) = 2
finding_kind (More b t) = 3

abbrev pub finding_row : Finding → List ℕ
finding_row f =
    let n = searched_numbers (Ok f) in
    finding_kind f ∷ n.number ∷ n.place ∷ n.choice ∷ n.limit ∷ n.total ∷ 0 ∷ 0 ∷ 0 ∷ []

abbrev pub searched_row : Result Finding Refusal → List ℕ
searched_row = answered_row finding_row

-- F10: the length of what was written
abbrev pub length_row : ℕ → List ℕ
length_row l =
    let a : Result ℕ Refusal = Ok l in
    1 ∷ number_of a ∷ place_of a ∷ written_length a ∷ 0 ∷ 0 ∷ 0 ∷ 0 ∷ 0 ∷ []

abbrev pub written_row : Result ℕ Refusal → List ℕ
written_row = answered_row length_row
