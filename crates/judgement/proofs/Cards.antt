-- Worked examples, proved by computing, each a single statement over one list of bytes: the example book E and small books beside it.
-- They show besides that every kind of verdict is given, so that no law about one is empty.
use Prim.Native.Nat.{ℕ, zero, suc}
use mathlib.Core.Path.{◌≡◌, refl}
use mathlib.Core.List.{List, [], ◌∷◌, ◌++◌}
use mathlib.Core.Bool.{true, false}
use lib.ListN.{set}
use lib.Count.{count_trailing_zeros}
use Rattle.book.specs.Reader.{each, opened}
use Rattle.book.specs.Book.{below, some, count, different, walks, met_on, length_fits, span_ends, lightpath_ends, follows}
use Rattle.book.specs.Bits.{bit, has, put, stations_into}
use Rattle.book.specs.Format.{Reading, good, refused, book, reading}
use Rattle.book.specs.Memory.{padded}
use Rattle.book.specs.Choice.{movable_from, product, digits, digit_for, alternatives_of, rerouted}
use Rattle.book.specs.Writing.{chosen_of}
use Rattle.book.proofs.Cards.{E}
use Rattle.judgement.specs.Network.{brought, grown, swept, settled, side_of}
use Rattle.judgement.specs.Judgement.{sum, load, first_of}
use Rattle.judgement.specs.Withdrawn.{none_of}
use Rattle.judgement.specs.Answers.{judged, judged_of, judged_numbers, asked, asked_of, asked_set_of}
use Rattle.judgement.specs.Sites.{down_at, closed_of}
use Rattle.judgement.specs.declared.Verdict.TheVariants.{Over, Split, Cut, Okay}
use Rattle.std.specs.Prelude.{Ok, Err, None}
use Rattle.book.specs.Memory.{refusal}

-- the loads of the five spans of a book
abbrev loads_of : Reading → List ℕ
loads_of (good m) = load m 0 ∷ load m 1 ∷ load m 2 ∷ load m 3 ∷ load m 4 ∷ []
loads_of (refused k p) = []

pub P1 : (loads_of (chosen_of (reading E) 0) ≡ 1 ∷ 1 ∷ 2 ∷ 0 ∷ 1 ∷ []) × (judged_of (chosen_of (reading E) 0) ≡ Ok (judged (Cut 2 7) 2 0))
unfolding reading book each opened below some count different walks length_fits span_ends lightpath_ends follows bit has put stations_into padded movable_from product digits digit_for alternatives_of rerouted brought grown swept settled side_of sum first_of count_trailing_zeros
P1 = (refl, refl)

pub P2 : (loads_of (chosen_of (reading E) 1) ≡ 1 ∷ 1 ∷ 1 ∷ 1 ∷ 0 ∷ []) × (judged_of (chosen_of (reading E) 1) ≡ Ok (judged Okay 0 0)) × (judged_of (chosen_of (reading E) 2) ≡ Err (refusal 12 0))
unfolding reading book each opened below some count different walks length_fits span_ends lightpath_ends follows bit has put stations_into padded movable_from product digits digit_for alternatives_of rerouted brought grown swept settled side_of sum first_of count_trailing_zeros
P2 = (refl, refl, refl)

pub P3 : ((judged_numbers (judged_of (chosen_of (reading E) 0))).f ≡ 2) × ((judged_numbers (judged_of (chosen_of (reading E) 0))).fc ≡ 0)
unfolding reading book each opened below some count different walks length_fits span_ends lightpath_ends follows bit has put stations_into padded movable_from product digits digit_for alternatives_of rerouted brought grown swept settled side_of sum first_of count_trailing_zeros
P3 = (refl, refl)

-- E with span 2 limited to 1
abbrev E' : List ℕ
E' = set E 32 1

pub P4 : (judged_of (chosen_of (reading E') 0) ≡ Ok (judged (Over 2 2 1) 2 1)) × (judged_of (chosen_of (reading E') 1) ≡ Ok (judged Okay 0 0))
unfolding reading book each opened below some count different walks length_fits span_ends lightpath_ends follows bit has put stations_into padded movable_from product digits digit_for alternatives_of rerouted brought grown swept settled side_of sum first_of count_trailing_zeros
P4 = (refl, refl)

-- so many stations, spans between stations 0 and 1 with limit 2, and lightpaths from 0 to 1, each over one span
abbrev stations_of : ℕ → List ℕ
stations_of zero = []
stations_of (suc n) = 0x4e ∷ 0x44 ∷ 1 ∷ stations_of n

abbrev pair : ℕ → ℕ → List ℕ
pair x y =
    0x48 ∷ 0x44 ∷ 2 ∷ 2 ∷ 2 ∷ 0 ∷ stations_of 2 ++ (0x53 ∷ 0x50 ∷ 0 ∷ 1 ∷ 2 ∷ 0x53 ∷ 0x50 ∷ 0 ∷ 1 ∷ 2 ∷ 0x4c ∷ 0x50 ∷ 0 ∷ 1 ∷ 1 ∷ x ∷ 0x4c ∷ 0x50 ∷ 0 ∷ 1 ∷ 1 ∷ y ∷ 0x45 ∷ 0x4e ∷ [])

abbrev alone : ℕ → List ℕ
alone n = 0x48 ∷ 0x44 ∷ n ∷ 0 ∷ 0 ∷ 0 ∷ stations_of n ++ (0x45 ∷ 0x4e ∷ [])

pub P7 : judged_of (chosen_of (reading (alone 1)) 0) ≡ Ok (judged Okay 0 0)
unfolding reading book each opened below some count different walks length_fits span_ends lightpath_ends follows bit has put stations_into padded movable_from product digits digit_for alternatives_of rerouted brought grown swept settled side_of sum first_of count_trailing_zeros
P7 = refl

pub P8 : judged_of (chosen_of (reading (alone 2)) 0) ≡ Ok (judged (Split 1) 0 0)
unfolding reading book each opened below some count different walks length_fits span_ends lightpath_ends follows bit has put stations_into padded movable_from product digits digit_for alternatives_of rerouted brought grown swept settled side_of sum first_of count_trailing_zeros
P8 = refl

pub P9 : (judged_of (chosen_of (reading (pair 0 0)) 0) ≡ Ok (judged (Cut 0 1) 2 0)) × (judged_of (chosen_of (reading (pair 0 1)) 0) ≡ Ok (judged Okay 0 0))
unfolding reading book each opened below some count different walks length_fits span_ends lightpath_ends follows bit has put stations_into padded movable_from product digits digit_for alternatives_of rerouted brought grown swept settled side_of sum first_of count_trailing_zeros
P9 = (refl, refl)

-- the question, also where the choice is over, and its refusals in their order
pub asks : (asked_of (chosen_of (reading E) 0) 0 ≡ Ok (asked 15 true)) × (asked_of (chosen_of (reading E') 0) 2 ≡ Ok (asked 7 false))
    × (asked_of (chosen_of (reading E) 0) 5 ≡ Err (refusal 13 0)) × (asked_of (chosen_of (reading E) 2) 5 ≡ Err (refusal 12 0)) × (asked_of (chosen_of (reading []) 2) 5 ≡ Err (refusal 1 0))
unfolding reading book each opened below some count different walks length_fits span_ends lightpath_ends follows bit has put stations_into padded movable_from product digits digit_for alternatives_of rerouted brought grown swept settled side_of sum first_of count_trailing_zeros
asks = (refl, refl, refl, refl, refl)

-- the question about sets in choice 1: no span, spans 0 and 3, spans 0 and 1; a number that no span has, in the first word and in the second; and no such choice
pub sets : (asked_set_of (chosen_of (reading E) 1) 0 0 ≡ Ok (asked 15 true)) × (asked_set_of (chosen_of (reading E) 1) 9 0 ≡ Ok (asked 1 false))
    × (asked_set_of (chosen_of (reading E) 1) 3 0 ≡ Ok (asked 13 false)) × (asked_set_of (chosen_of (reading E) 1) 33 0 ≡ Err (refusal 13 0))
    × (asked_set_of (chosen_of (reading E) 1) 0 1 ≡ Err (refusal 13 0)) × (asked_set_of (chosen_of (reading E) 2) 0 1 ≡ Err (refusal 12 0))
unfolding reading book each opened below some count different walks length_fits span_ends lightpath_ends follows bit has put stations_into padded movable_from product digits digit_for alternatives_of rerouted brought grown swept settled side_of sum first_of count_trailing_zeros none_of
sets = (refl, refl, refl, refl, refl, refl)

-- a site down: both choices of E, and no such choice; three stations that nothing joins; two of them, where one is left, and one, where none is
pub sites : (closed_of (chosen_of (reading E) 0) ≡ Ok (down_at 2 3)) × (closed_of (chosen_of (reading E) 1) ≡ Ok None)
    × (closed_of (chosen_of (reading E) 2) ≡ Err (refusal 12 0)) × (closed_of (chosen_of (reading (alone 3)) 0) ≡ Ok (down_at 0 2))
    × (closed_of (chosen_of (reading (alone 2)) 0) ≡ Ok None) × (closed_of (chosen_of (reading (alone 1)) 0) ≡ Ok None)
unfolding reading book each opened below some count different walks length_fits span_ends lightpath_ends follows bit has put stations_into padded movable_from product digits digit_for alternatives_of rerouted brought grown swept settled side_of sum first_of count_trailing_zeros met_on
sites = (refl, refl, refl, refl, refl, refl)

-- stations 0 and 1 with a pass-through node 2 between them, and one lightpath over both spans: closing node 2 takes it out
abbrev between : List ℕ
between =
    0x48 ∷ 0x44 ∷ 3 ∷ 2 ∷ 1 ∷ 0 ∷ stations_of 2 ++ (0x4e ∷ 0x44 ∷ 0 ∷ 0x53 ∷ 0x50 ∷ 0 ∷ 2 ∷ 1 ∷ 0x53 ∷ 0x50 ∷ 2 ∷ 1 ∷ 1 ∷ 0x4c ∷ 0x50 ∷ 0 ∷ 1 ∷ 2 ∷ 0 ∷ 1 ∷ 0x45 ∷ 0x4e ∷ [])

pub passed_through : closed_of (chosen_of (reading between) 0) ≡ Ok (down_at 2 1)
unfolding reading book each opened below some count different walks length_fits span_ends lightpath_ends follows bit has put stations_into padded movable_from product digits digit_for alternatives_of rerouted brought grown swept settled side_of sum first_of count_trailing_zeros met_on
passed_through = refl

-- with two stations every site may stand though a span's loss parts them
pub two_stations : (judged_of (chosen_of (reading (pair 0 0)) 0) ≡ Ok (judged (Cut 0 1) 2 0)) × (closed_of (chosen_of (reading (pair 0 0)) 0) ≡ Ok None)
unfolding reading book each opened below some count different walks length_fits span_ends lightpath_ends follows bit has put stations_into padded movable_from product digits digit_for alternatives_of rerouted brought grown swept settled side_of sum first_of count_trailing_zeros met_on
two_stations = (refl, refl)

-- station 0 with neighbours 1 and 2, and to each two spans with a lightpath on each: any span can be opened, and closing station 0 parts the neighbours
abbrev hub : List ℕ
hub =
    0x48 ∷ 0x44 ∷ 3 ∷ 4 ∷ 4 ∷ 0 ∷ stations_of 3
    ++ (0x53 ∷ 0x50 ∷ 0 ∷ 1 ∷ 1 ∷ 0x53 ∷ 0x50 ∷ 0 ∷ 1 ∷ 1 ∷ 0x53 ∷ 0x50 ∷ 0 ∷ 2 ∷ 1 ∷ 0x53 ∷ 0x50 ∷ 0 ∷ 2 ∷ 1
    ∷ 0x4c ∷ 0x50 ∷ 0 ∷ 1 ∷ 1 ∷ 0 ∷ 0x4c ∷ 0x50 ∷ 0 ∷ 1 ∷ 1 ∷ 1 ∷ 0x4c ∷ 0x50 ∷ 0 ∷ 2 ∷ 1 ∷ 2 ∷ 0x4c ∷ 0x50 ∷ 0 ∷ 2 ∷ 1 ∷ 3 ∷ 0x45 ∷ 0x4e ∷ [])

pub hub_down : (judged_of (chosen_of (reading hub) 0) ≡ Ok (judged Okay 0 0)) × (closed_of (chosen_of (reading hub) 0) ≡ Ok (down_at 0 2))
unfolding reading book each opened below some count different walks length_fits span_ends lightpath_ends follows bit has put stations_into padded movable_from product digits digit_for alternatives_of rerouted brought grown swept settled side_of sum first_of count_trailing_zeros met_on
hub_down = (refl, refl)
