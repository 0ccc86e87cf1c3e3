-- What the private functions of the crate tell each other.
use Rattle.std.specs.Prelude.{Bool}
use Rattle.book.specs.declared.Book.{Book}
use Rattle.book.specs.declared.choice.Movables.{Movables}
use Rattle.book.specs.declared.choice.Choice.{Choice}
use Rattle.book.specs.Moving.{chosen_in}
use Rattle.judgement.specs.Judgement.{is_okay}
use Rattle.judgement.specs.Arrays.{verdict_in}

-- whether the arrays of the book that a choice makes get the verdict OK
abbrev pub acceptable_in : Book → Movables → Choice → Bool
acceptable_in b w c = is_okay (verdict_in (chosen_in b w c))
