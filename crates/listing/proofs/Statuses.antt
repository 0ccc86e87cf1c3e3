-- The status of a call is told by the text that it prints: a refusal is seen by its first two bytes, and nothing else is taken for one. Each text begins with a word
-- that the definitions spell out, so both are computed.
use Prim.Native.Nat.{ℕ}
use mathlib.Core.Path.{◌≡◌, refl}
use mathlib.Core.Bool.{Bool, true, false}
use mathlib.Core.List.{List, ◌++◌}
use Rattle.book.specs.Book.{RouteBook}
use Rattle.book.specs.Format.{good}
use Rattle.book.specs.Memory as memory
use Rattle.judgement.specs.Answers.{asked}
use Rattle.std.specs.Prelude.{Ok}
use Rattle.search.specs.Search.{finding}
use Rattle.search.specs.declared.Finding.{Finding}
use Rattle.search.specs.declared.Finding.TheVariants.{Found, None, More}
use Rattle.listing.specs.Text.{text_of}
use Rattle.listing.specs.Report.{bad_text, report_of, finding_line, moves_of, end_line}
use Rattle.listing.specs.Commands.{is_refusal, judge_of, open_of, search_of, read_of, write_of}

-- what is refused, by the report or by a command
pub bad_refuses : (k p : ℕ) → is_refusal (text_of (bad_text k p)) ≡ true
unfolding text_of memory.padded
bad_refuses k p = refl

-- what is served
pub report_serves : (m : RouteBook) → is_refusal (text_of (report_of (good m))) ≡ false
unfolding text_of memory.padded
report_serves m = refl

pub judge_serves : (n : ℕ) (c : RouteBook) → is_refusal (text_of (judge_of n (good c))) ≡ false
unfolding text_of memory.padded
judge_serves n c = refl

pub open_serves : (d : ℕ) (all : Bool) → is_refusal (text_of (open_of (Ok (asked d all)))) ≡ false
unfolding text_of memory.padded
open_serves d true = refl
open_serves d false = refl

-- a finding, whatever stands behind its line
finding_serves : (f : Finding) (behind : List ℕ) → is_refusal (text_of ((finding_line f ++ behind) ++ end_line)) ≡ false
unfolding text_of memory.padded
finding_serves (Found n t) behind = refl
finding_serves (None t) behind = refl
finding_serves (More b t) behind = refl

pub search_serves : (limit : ℕ) (m : RouteBook) → is_refusal (text_of (search_of limit (good m))) ≡ false
search_serves limit m = finding_serves (finding m limit) (moves_of m (finding m limit))

pub read_serves : (m : RouteBook) → is_refusal (text_of (read_of (good m))) ≡ false
unfolding text_of memory.padded
read_serves m = refl

pub written_serves : (l : ℕ) → is_refusal (text_of (write_of (Ok l))) ≡ false
unfolding text_of memory.padded
written_serves l = refl
