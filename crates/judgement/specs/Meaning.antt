-- What each verdict means, in the words of docs/JUDGEMENT.md and without the search that finds it.
use Rattle.std.specs.Prelude.{ℕ, ◌<◌, ◌≤◌, length}
use Rattle.book.specs.Book.{RouteBook}
use Rattle.judgement.specs.declared.Verdict.{Verdict}
use Rattle.judgement.specs.declared.Verdict.TheVariants.{Over, Split, Cut, Okay}
use Rattle.judgement.specs.Judgement.{load, limit, without, all_up, side}
use Rattle.judgement.specs.Cuts.{AllJoined, Survives}

-- x is the least of the numbers below n of which P holds
pub record Least (P : ℕ → Type 0) (n x : ℕ) : Type 0 where
  pub below : x < n
  pub holds : P x
  pub before : (y : ℕ) → y < x → P y → ⊥

module _ (m : RouteBook) where
  -- J11: a span is over where its load exceeds its limit
  abbrev pub IsOver : ℕ → Type 0
  IsOver x = limit m x < load m x

  -- J11: no span is over
  abbrev pub NoneOver : Type 0
  NoneOver = (x : ℕ) → x < length m.spans → load m x ≤ limit m x

  -- J13: a span is cut where without its lightpaths some station is not joined
  abbrev pub IsCut : ℕ → Type 0
  IsCut x = AllJoined m (without m x) → ⊥

  -- J11 to J14: the four kinds, each with its own numbers
  pub data Given : Verdict → Type 0 where
    over : (x : ℕ) → Least IsOver (length m.spans) x → Given (Over x (load m x) (limit m x))
    split : NoneOver → (AllJoined m all_up → ⊥) → Given (Split (side m all_up))
    cut : (x : ℕ) → NoneOver → AllJoined m all_up → Least IsCut (length m.spans) x → Given (Cut x (side m (without m x)))
    okay : NoneOver → Survives m → Given Okay
