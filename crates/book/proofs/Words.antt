-- The words of a route hold span x exactly if the route holds it: each span is put in one by one, at its own place.
-- Whoever asks a book in memory whether a route rides a span, or a node is a station, relies on this.
use Prim.Native.Nat.{ℕ, ◌+◌, ◌*◌, ◌/◌, ◌%◌, ◌<◌}
use mathlib.Core.Path.{◌≡◌, refl, ◌∙◌}
use mathlib.Core.List.{List, [], ◌∷◌, map}
use mathlib.Core.Bool.{Bool, true, false, ◌||◌}
use native.Mathlib.Decide.{ℕ_discrete}
use native.Mathlib.Omega.{arith}
use lib.ListN.{get_or}
use lib.Dec.{eqb}
use borrow.Author.Tests.{eq-eqb, ne_eqb, eqb-true, eqb-false}
use Rattle.book.specs.Bits.{bit, has, put_if, word_into, span_word}
use Rattle.book.specs.Book.{RouteBook, among}
use Rattle.book.specs.Memory.{padded, routes_of, book_of}
use Rattle.book.proofs.Bits.{bit_of_zero, put_same, put_other}
use Rattle.book.proofs.Stations.{station_has}
use Rattle.book.proofs.Lightpaths.{column_at}

or_turn : (a b c : Bool) → ((a || b) || c) ≡ (b || (a || c))
or_turn true true c = refl
or_turn true false c = refl
or_turn false b c = refl

-- one span more
put_span : (w x s i : ℕ) → i < 64 → has (put_if (eqb (s / 64) w) x (s % 64)) i ≡ (eqb (64 * w + i) s || has x i)
unfolding has
put_span w x s i l = go (eqb (s / 64) w) refl (ℕ_discrete i (s % 64))
  where
    go : (t : Bool) → eqb (s / 64) w ≡ t → Dec (i ≡ s % 64) → eqb (bit (put_if t x (s % 64)) i) 1 ≡ (eqb (64 * w + i) s || eqb (bit x i) 1)
    go true e (yes q) = rw (eq-eqb (64 * w + i) s (omega (arith, eqb-true (s / 64) w e)), q, put_same x (s % 64))
    go true e (no n) = rw (ne_eqb (64 * w + i) s (λ z. n (omega arith)), put_other x (s % 64) i n)
    go false e q = rw (ne_eqb (64 * w + i) s (λ z. eqb-false (s / 64) w e (omega arith)))

into_has : (w x i : ℕ) (r : List ℕ) → i < 64 → has (word_into w x r) i ≡ (has x i || among (64 * w + i) r)
unfolding word_into
into_has w x i [] l = or_none (has x i)
  where
    or_none : (a : Bool) → a ≡ (a || false)
    or_none true = refl
    or_none false = refl
into_has w x i (s ∷ r) l = into_has w (put_if (eqb (s / 64) w) x (s % 64)) i r l ∙ rw (put_span w x s i l) (or_turn (eqb (64 * w + i) s) (has x i) (among (64 * w + i) r))

-- THE LAW
word_has : (w i : ℕ) (r : List ℕ) → i < 64 → has (span_word w r) i ≡ among (64 * w + i) r
unfolding has
word_has w i r l = into_has w 0 i r l ∙ rw (bit_of_zero i)

-- and so in the struct of a book: row k of the routes, and node i of the nodes
word_at : (w k : ℕ) (rs : List (List ℕ)) → get_or (padded 152 (map (span_word w) rs)) k 0 ≡ span_word w (get_or rs k [])
unfolding word_into
word_at w k rs = column_at 152 (span_word w) rs [] refl k

pub low_has : (m : RouteBook) (k i : ℕ) → i < 64 → has (get_or (book_of m).low k 0) i ≡ among (64 * 0 + i) (get_or (routes_of m.lightpaths m.alternatives) k [])
low_has m k i l = rw (word_at 0 k (routes_of m.lightpaths m.alternatives)) (word_has 0 i (get_or (routes_of m.lightpaths m.alternatives) k []) l)

pub high_has : (m : RouteBook) (k i : ℕ) → i < 64 → has (get_or (book_of m).high k 0) i ≡ among (64 * 1 + i) (get_or (routes_of m.lightpaths m.alternatives) k [])
high_has m k i l = rw (word_at 1 k (routes_of m.lightpaths m.alternatives)) (word_has 1 i (get_or (routes_of m.lightpaths m.alternatives) k []) l)

pub stations_has : (m : RouteBook) (i : ℕ) → has (book_of m).stations i ≡ get_or m.nodes i false
stations_has m i = station_has m.nodes i
