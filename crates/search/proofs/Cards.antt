-- Worked examples, proved by computing, each a single statement over one list of bytes: the example book E and small books beside it.
-- They show besides that each of the answers is given, so that no law about one is empty.
use Prim.Native.Nat.{ℕ}
use mathlib.Core.Path.{◌≡◌, refl}
use mathlib.Core.List.{List, [], ◌∷◌, ◌++◌}
use lib.ListN.{take, drop, set}
use lib.Count.{count_trailing_zeros}
use Rattle.book.specs.Reader.{each, opened}
use Rattle.book.specs.Book.{below, some, count, different, walks, length_fits, span_ends, lightpath_ends, follows}
use Rattle.book.specs.Bits.{bit, has, put, stations_into}
use Rattle.book.specs.Format.{book, reading}
use Rattle.book.specs.Memory.{padded}
use Rattle.book.specs.Choice.{movable_from, product, digits, digit_for, alternatives_of, rerouted}
use Rattle.book.proofs.Cards.{E}
use Rattle.judgement.specs.Network.{brought, grown, swept, settled, side_of}
use Rattle.judgement.specs.Judgement.{sum, first_of}
use Rattle.search.specs.declared.Finding.TheVariants.{Found, None, More}
use Rattle.std.specs.Prelude.{Ok, Err}
use Rattle.book.specs.Memory.{refusal}
use Rattle.search.specs.Answers.{searched_of}

pub P5 : (searched_of (reading E) 0 ≡ Ok (More 0 2)) × (searched_of (reading E) 1 ≡ Ok (More 1 2)) × (searched_of (reading E) 2 ≡ Ok (Found 1 2))
unfolding reading book each opened below some count different walks length_fits span_ends lightpath_ends follows bit has put stations_into padded movable_from product digits digit_for alternatives_of rerouted brought grown swept settled side_of sum first_of count_trailing_zeros
P5 = (refl, refl, refl)

-- E without its AL record, and with 0 for the count of alternatives in HD
abbrev unmovable : List ℕ
unmovable = set (take 68 E ++ drop 73 E) 5 0

pub P6 : searched_of (reading unmovable) 1 ≡ Ok (None 1)
unfolding reading book each opened below some count different walks length_fits span_ends lightpath_ends follows bit has put stations_into padded movable_from product digits digit_for alternatives_of rerouted brought grown swept settled side_of sum first_of count_trailing_zeros
P6 = refl

-- one station alone
abbrev alone : List ℕ
alone = 0x48 ∷ 0x44 ∷ 1 ∷ 0 ∷ 0 ∷ 0 ∷ 0x4e ∷ 0x44 ∷ 1 ∷ 0x45 ∷ 0x4e ∷ []

pub P7 : searched_of (reading alone) 1 ≡ Ok (Found 0 1)
unfolding reading book each opened below some count different walks length_fits span_ends lightpath_ends follows bit has put stations_into padded movable_from product digits digit_for alternatives_of rerouted brought grown swept settled side_of sum first_of count_trailing_zeros
P7 = refl

-- limits at the ends of the range, and a refusal, whatever the limit
pub limits : (searched_of (reading alone) 0 ≡ Ok (More 0 1)) × (searched_of (reading unmovable) 4294967295 ≡ Ok (None 1))
    × (searched_of (reading E) 4294967295 ≡ Ok (Found 1 2)) × (searched_of (reading []) 0 ≡ Err (refusal 1 0))
unfolding reading book each opened below some count different walks length_fits span_ends lightpath_ends follows bit has put stations_into padded movable_from product digits digit_for alternatives_of rerouted brought grown swept settled side_of sum first_of count_trailing_zeros
limits = (refl, refl, refl, refl)

-- two stations and three spans between them, the first with a limit w; two lightpaths, over the first and the second, and the third span for an alternative
-- of the first lightpath: with w raised from 0 to 1, FOUND has a lower number
abbrev double : ℕ → List ℕ
double w =
    0x48 ∷ 0x44 ∷ 2 ∷ 3 ∷ 2 ∷ 1 ∷ 0x4e ∷ 0x44 ∷ 1 ∷ 0x4e ∷ 0x44 ∷ 1 ∷ 0x53 ∷ 0x50 ∷ 0 ∷ 1 ∷ w ∷ 0x53 ∷ 0x50 ∷ 0 ∷ 1 ∷ 1 ∷ 0x53 ∷ 0x50 ∷ 0 ∷ 1 ∷ 1
    ∷ 0x4c ∷ 0x50 ∷ 0 ∷ 1 ∷ 1 ∷ 0 ∷ 0x4c ∷ 0x50 ∷ 0 ∷ 1 ∷ 1 ∷ 1 ∷ 0x41 ∷ 0x4c ∷ 0 ∷ 1 ∷ 2 ∷ 0x45 ∷ 0x4e ∷ []

pub lower : (searched_of (reading (double 0)) 2 ≡ Ok (Found 1 2)) × (searched_of (reading (double 1)) 2 ≡ Ok (Found 0 2))
unfolding reading book each opened below some count different walks length_fits span_ends lightpath_ends follows bit has put stations_into padded movable_from product digits digit_for alternatives_of rerouted brought grown swept settled side_of sum first_of count_trailing_zeros
lower = (refl, refl)
