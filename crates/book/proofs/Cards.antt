-- Worked examples, proved by computing: the card P10, each part a single statement over one list, and the example book E, read and written.
-- They show besides that well-formed books exist and that every row of the refusal table applies to some bytes, so that no law is empty.
use Prim.Native.Nat.{ℕ}
use mathlib.Core.Path.{◌≡◌, refl}
use mathlib.Core.List.{List, [], ◌∷◌, ◌++◌}
use mathlib.Core.Bool.{true}
use lib.ListN.{length, take, drop}
use Rattle.book.specs.Reader.{each, opened}
use Rattle.book.specs.Book.{Span, Lightpath, RouteBook, below, every, count, different, some, span_ends, lightpath_ends, length_fits, walks, follows, well_formed}
use Rattle.book.specs.Memory.{padded}
use Rattle.book.specs.Choice.{owners, movable_from, movable, sizes, product, choices, weighed, number, digits, alternatives_of, digit_for, rerouted, chosen}
use Rattle.book.specs.Writing.{served, denied, writing}
use Rattle.book.specs.Format.{bytes_of, encode, from_high, from_stray, book, good, refused, reading}

-- docs/BOOK.md, the example book E
abbrev pub E : List ℕ
E =
    0x48 ∷ 0x44 ∷ 4 ∷ 5 ∷ 4 ∷ 1
    ∷ 0x4e ∷ 0x44 ∷ 1 ∷ 0x4e ∷ 0x44 ∷ 1 ∷ 0x4e ∷ 0x44 ∷ 1 ∷ 0x4e ∷ 0x44 ∷ 1
    ∷ 0x53 ∷ 0x50 ∷ 0 ∷ 1 ∷ 2 ∷ 0x53 ∷ 0x50 ∷ 1 ∷ 2 ∷ 2 ∷ 0x53 ∷ 0x50 ∷ 2 ∷ 3 ∷ 2
    ∷ 0x53 ∷ 0x50 ∷ 3 ∷ 0 ∷ 2 ∷ 0x53 ∷ 0x50 ∷ 0 ∷ 2 ∷ 2
    ∷ 0x4c ∷ 0x50 ∷ 0 ∷ 1 ∷ 1 ∷ 0 ∷ 0x4c ∷ 0x50 ∷ 1 ∷ 2 ∷ 1 ∷ 1
    ∷ 0x4c ∷ 0x50 ∷ 2 ∷ 3 ∷ 1 ∷ 2 ∷ 0x4c ∷ 0x50 ∷ 3 ∷ 0 ∷ 2 ∷ 2 ∷ 4
    ∷ 0x41 ∷ 0x4c ∷ 3 ∷ 1 ∷ 3
    ∷ 0x45 ∷ 0x4e ∷ []

abbrev span : ℕ → ℕ → ℕ → Span
span a b l = record { left = a; right = b; limit = l }

abbrev lightpath : ℕ → ℕ → List ℕ → Lightpath
lightpath a b r = record { ends = record { from = a; to = b }; route = record { spans = r } }

abbrev pub example : RouteBook
example = record {
  nodes = true ∷ true ∷ true ∷ true ∷ [];
  spans = span 0 1 2 ∷ span 1 2 2 ∷ span 2 3 2 ∷ span 3 0 2 ∷ span 0 2 2 ∷ [];
  lightpaths = lightpath 0 1 (0 ∷ []) ∷ lightpath 1 2 (1 ∷ []) ∷ lightpath 2 3 (2 ∷ []) ∷ lightpath 3 0 (2 ∷ 4 ∷ []) ∷ [];
  alternatives = record { lightpath = 3; route = record { spans = 3 ∷ [] } } ∷ [];
}

pub e_reads : (reading E ≡ good example) × (encode example ≡ E) × (well_formed example ≡ true)
unfolding reading book each opened below some count different walks length_fits span_ends lightpath_ends follows encode bytes_of well_formed every
e_reads = (refl, refl, refl)

pub P10 : (x : ℕ) → (reading [] ≡ refused 1 0) × (reading (take 74 E) ≡ refused 1 73) × (reading (E ++ (x ∷ [])) ≡ refused 9 75)
unfolding reading book each opened below some count different walks length_fits span_ends lightpath_ends follows
P10 x = (refl, refl, refl)

-- every row of the table applies to some bytes: 1 and 4 have three rows each
abbrev head : ℕ → ℕ → ℕ → ℕ → List ℕ → List ℕ
head n x p a s = 0x48 ∷ 0x44 ∷ n ∷ x ∷ p ∷ a ∷ s

abbrev node : ℕ → List ℕ → List ℕ
node f s = 0x4e ∷ 0x44 ∷ f ∷ s

abbrev pair : ℕ → ℕ → List ℕ → List ℕ
pair p a s = head 2 1 p a (node 1 (node 1 (0x53 ∷ 0x50 ∷ 0 ∷ 1 ∷ 0 ∷ s)))

abbrev path : ℕ → List ℕ → List ℕ
path t s = pair 1 0 (0x4c ∷ 0x50 ∷ 0 ∷ t ∷ s)

pub every_row : (reading [] ≡ refused 1 0) × (reading (0x48 ∷ 0x44 ∷ []) ≡ refused 1 0) × (reading (path 1 (1 ∷ [])) ≡ refused 1 17) × (reading (0 ∷ 0 ∷ []) ≡ refused 2 0)
    × (reading (head 0 0 0 0 []) ≡ refused 3 0) × (reading (head 1 0 0 0 (node 2 [])) ≡ refused 4 6) × (reading (head 1 1 0 0 (node 1 (0x53 ∷ 0x50 ∷ 0 ∷ 0 ∷ 0 ∷ []))) ≡ refused 4 9)
    × (reading (path 0 (0 ∷ [])) ≡ refused 4 17) × (reading (path 1 (1 ∷ 1 ∷ [])) ≡ refused 5 22) × (reading (path 1 (0 ∷ [])) ≡ refused 6 17) × (reading (path 1 (2 ∷ 0 ∷ 0 ∷ [])) ≡ refused 7 23)
    × (reading (pair 0 1 (0x41 ∷ 0x4c ∷ 0 ∷ 1 ∷ 0 ∷ [])) ≡ refused 8 17) × (reading (head 1 0 0 0 (node 1 (0x45 ∷ 0x4e ∷ 0 ∷ []))) ≡ refused 9 11) × (reading (head 1 0 0 0 (node 0 [])) ≡ refused 10 9)
unfolding reading book each opened below from_high from_stray some count different walks length_fits span_ends lightpath_ends follows
every_row = (refl, refl, refl, refl, refl, refl, refl, refl, refl, refl, refl, refl, refl, refl)

-- 5 and 7 point at the span at fault. In E's last LP, from 3 to 0: a span with no end at the present node; one that leads back to a node already met;
-- walks that end elsewhere, the last of them after it came to 0; and a number that is too high, though the walk breaks before it. And in its AL
abbrev with_spans : ℕ → ℕ → List ℕ
with_spans x y = take 66 E ++ (x ∷ y ∷ drop 68 E)

abbrev with_alternative : ℕ → List ℕ
with_alternative x = take 72 E ++ (x ∷ drop 73 E)

pub bad_spans : (reading (with_spans 4 2) ≡ refused 7 66) × (reading (with_spans 2 0) ≡ refused 7 67) × (reading (with_spans 2 2) ≡ refused 7 67) × (reading (with_spans 2 1) ≡ refused 7 67)
    × (reading (with_spans 3 0) ≡ refused 7 67) × (reading (with_spans 4 5) ≡ refused 5 67) × (reading (with_alternative 2) ≡ refused 7 72) × (reading (with_alternative 5) ≡ refused 5 72)
unfolding reading book each opened below from_high from_stray some count different walks length_fits span_ends lightpath_ends follows
bad_spans = (refl, refl, refl, refl, refl, refl, refl, refl)

-- the choices of E: two, and choice 1 is written in 74 bytes; 73 are too few, and there is no choice 2
abbrev E1 : List ℕ
E1 = take 61 E ++ (0x4c ∷ 0x50 ∷ 3 ∷ 0 ∷ 1 ∷ 3 ∷ drop 68 E)

pub e_choices : (choices example ≡ 2) × (movable example ≡ 3 ∷ []) × (digits (sizes example) 1 ≡ 1 ∷ 0 ∷ 0 ∷ 0 ∷ 0 ∷ 0 ∷ 0 ∷ 0 ∷ [])
    × (writing E 0 75 ≡ served E) × (writing E 1 74 ≡ served E1) × (writing E 1 73 ≡ denied 11 0) × (writing E 2 0 ≡ denied 12 0) × (writing [] 2 0 ≡ denied 1 0)
unfolding reading book each opened below some different walks length_fits span_ends lightpath_ends follows count movable_from padded product digits digit_for alternatives_of rerouted encode bytes_of
e_choices = (refl, refl, refl, refl, refl, refl, refl, refl)

-- a route listed twice: three choices, of which two make the same book
abbrev twice : RouteBook
twice = record {
  nodes = example.nodes;
  spans = example.spans;
  lightpaths = example.lightpaths;
  alternatives = record { lightpath = 3; route = record { spans = 3 ∷ [] } } ∷ record { lightpath = 3; route = record { spans = 3 ∷ [] } } ∷ [];
}

pub listed_twice : (well_formed twice ≡ true) × (choices twice ≡ 3) × (number (sizes twice) (1 ∷ 0 ∷ 0 ∷ 0 ∷ 0 ∷ 0 ∷ 0 ∷ 0 ∷ []) ≡ 1)
    × (number (sizes twice) (2 ∷ 0 ∷ 0 ∷ 0 ∷ 0 ∷ 0 ∷ 0 ∷ 0 ∷ []) ≡ 2) × (chosen twice 1 ≡ chosen twice 2)
unfolding well_formed every below some different walks length_fits span_ends lightpath_ends follows count movable_from padded product weighed digits digit_for alternatives_of rerouted
listed_twice = (refl, refl, refl, refl, refl)

-- docs/BOOK.md's second example, in any book with ten lightpaths whose alternatives are for lightpaths 2, 5, 5 and 9
pub seventh : (m : RouteBook) → length m.lightpaths ≡ 10 → owners m ≡ 2 ∷ 5 ∷ 5 ∷ 9 ∷ []
    → (sizes m ≡ 2 ∷ 3 ∷ 2 ∷ 1 ∷ 1 ∷ 1 ∷ 1 ∷ 1 ∷ []) × (choices m ≡ 12) × (digits (sizes m) 7 ≡ 1 ∷ 0 ∷ 1 ∷ 0 ∷ 0 ∷ 0 ∷ 0 ∷ 0 ∷ [])
unfolding count movable_from padded product digits
seventh m e f = rw (e, f) (refl, refl, refl)
