-- What the operation answers: docs/SEARCH.md, section 2.
use Rattle.std.specs.Prelude.{ℕ, Result, Ok, Err}
use Rattle.book.specs.Format.{Reading, good, refused}
use Rattle.book.specs.Memory.{fault_number, refusal}
use Rattle.book.specs.declared.refusal.Refusal.{Refusal}
use Rattle.search.specs.Search.{finding}
use Rattle.search.specs.declared.Finding.{Finding}
use Rattle.search.specs.declared.Finding.TheVariants.{Found, None, More}

-- S6, S7: what was found, or the refusal of the book
abbrev pub searched_of : Reading → ℕ → Result Finding Refusal
searched_of (good m) limit = Ok (finding m limit)
searched_of (refused k p) limit = Err (refusal k p)

-- S8: the numbers of an answer, for each of its cases: the number and place of a refusal, and what it carries; whatever it does not carry is 0
pub record Numbers : Type 0 where
  pub number : ℕ
  pub place : ℕ
  pub choice : ℕ
  pub limit : ℕ
  pub total : ℕ

abbrev pub searched_numbers : Result Finding Refusal → Numbers
searched_numbers (Ok (Found n t)) = record { number = 0; place = 0; choice = n; limit = 0; total = t }
searched_numbers (Ok (None t)) = record { number = 0; place = 0; choice = 0; limit = 0; total = t }
searched_numbers (Ok (More b t)) = record { number = 0; place = 0; choice = 0; limit = b; total = t }
searched_numbers (Err r) = record { number = fault_number r.fault; place = r.place; choice = 0; limit = 0; total = 0 }
