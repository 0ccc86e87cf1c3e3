-- The word, the four counts, and then the end of the line; the counts of the struct are those of the book.
use mathlib.Core.Path.{ap}
use mathlib.Core.List.{◌∷◌, []}
use Rattle.book.specs.declared.Book.{Book}
use Rattle.listing.specs.Report.{word_book, line}
use Rattle.listing.proofs.Texts.{adds_then, adds_as}
use Rattle.listing.proofs.text.Text.book_line.Goals as goal

pub returns : goal.returns
returns c = λ m e.
    adds_as (ap (λ (x : Book). line word_book (x.nodes ∷ x.spans ∷ x.lightpaths ∷ x.alternatives ∷ [])) e)
    (adds_then c.word.ensures (adds_then c.number.ensures (adds_then c.number-2.ensures (adds_then c.number-3.ensures (adds_then c.number-4.ensures c.end.ensures)))))
