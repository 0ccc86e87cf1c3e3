-- The set of stations holds node i exactly if node i is a station: nodes are put in one by one, each at its own number.
-- So the code's test of a lightpath's ends is the test of docs/BOOK.md.
use Prim.Native.Nat.{ℕ, suc, ◌+◌, ◌-◌, ◌^◌, ◌≤◌, ◌<◌, zero-le}
use mathlib.Core.Path.{◌≡◌, refl, sym, ap, ◌∙◌}
use mathlib.Core.List.{List, [], ◌∷◌, ◌++◌}
use mathlib.Core.Bool.{Bool, true, false, not, ◌&&◌}
use native.Mathlib.Decide.{dec_lt, ℕ_discrete}
use native.Mathlib.Nat.{add-zero, suc-add, add-suc}
use native.Mathlib.Omega.{arith}
use lib.ListN.{length, get_or, get_or-eq_default}
use lib.Dec.{eqb}
use borrow.Author.Tests.{lt-ltb, le-ltb}
use Rattle.book.specs.Bits.{has, put, put_if, stations_into, station_set}
use Rattle.book.specs.Book.{Ends, lightpath_ends}
use Rattle.book.specs.Inside.{ends_fit}
use Rattle.book.proofs.Tests.{and_inv}
use Rattle.book.proofs.Bits.{bit_of_zero, put_same, put_other, put_lt}

-- one more node at the end
pub stations_more : (x k : ℕ) (ns : List Bool) (n : Bool) → stations_into x k (ns ++ n ∷ []) ≡ put_if n (stations_into x k ns) (k + length ns)
unfolding stations_into
stations_more x k [] n = ap (put_if n x) (sym (add-zero k))
stations_more x k (a ∷ ns) n = stations_more (put_if a x k) (suc k) ns n ∙ ap (put_if n (stations_into (put_if a x k) (suc k) ns)) (suc-add k (length ns) ∙ sym (add-suc k (length ns)))

-- the set is below a width that has a place for every node
pub stations_within : (W x k : ℕ) (ns : List Bool) → k + length ns ≤ W → x < 2 ^ W → stations_into x k ns < 2 ^ W
unfolding stations_into
stations_within W x k [] l h = h
stations_within W x k (true ∷ ns) l h = stations_within W (put x k) (suc k) ns (omega arith) (put_lt W x k h (omega arith))
stations_within W x k (false ∷ ns) l h = stations_within W x (suc k) ns (omega arith) h

-- nothing from k on is in x
abbrev Free : ℕ → ℕ → Type 0
Free x k = (i : ℕ) → k ≤ i → has x i ≡ false

put_if_same : (n : Bool) (x k : ℕ) → Free x k → has (put_if n x k) k ≡ n
unfolding has
put_if_same true x k f = rw (put_same x k)
put_if_same false x k f = f k (omega arith)

put_if_other : (n : Bool) (x k i : ℕ) → (i ≡ k → ⊥) → has (put_if n x k) i ≡ has x i
unfolding has
put_if_other true x k i h = rw (put_other x k i h)
put_if_other false x k i h = refl

-- node k keeps its place while later ones are put in
kept : (ms : List Bool) (y j k : ℕ) → k < j → has (stations_into y j ms) k ≡ has y k
unfolding stations_into
kept [] y j k h = refl
kept (m ∷ ms) y j k h = kept ms (put_if m y j) (suc j) k (omega arith) ∙ put_if_other m y j k (λ e. omega arith)

past : (n : Bool) (x k : ℕ) → Free x k → Free (put_if n x k) (suc k)
past n x k f j m = put_if_other n x k j (λ e. omega arith) ∙ f j (omega arith)

stations_at : (ns : List Bool) (x k i : ℕ) → Free x k → k ≤ i → has (stations_into x k ns) i ≡ get_or ns (i - k) false
unfolding stations_into
stations_at [] x k i f l = f i l
stations_at (n ∷ ns) x k i f l = go (ℕ_discrete i k) (stations_at ns (put_if n x k) (suc k) i (past n x k f))
  where
    go : Dec (i ≡ k) → (suc k ≤ i → has (stations_into (put_if n x k) (suc k) ns) i ≡ get_or ns (i - suc k) false)
        → has (stations_into (put_if n x k) (suc k) ns) i ≡ get_or (n ∷ ns) (i - k) false
    go (yes e) ih =
        let z : i - k ≡ 0 = omega arith in
        rw (z, e) (kept ns (put_if n x k) (suc k) k (omega arith) ∙ put_if_same n x k f)
    go (no h) ih =
        let z : i - k ≡ suc (i - suc k) = omega arith in
        rw z (ih (omega arith))

-- THE LAW
pub station_has : (ns : List Bool) (i : ℕ) → has (station_set ns) i ≡ get_or ns i false
unfolding has
station_has ns i = stations_at ns 0 0 i (λ j l. rw (bit_of_zero j)) zero-le ∙ ap (λ (k : ℕ). get_or ns k false) (omega arith)

and_none : (a : Bool) → (a && false) ≡ false
and_none true = refl
and_none false = refl

regroup : (a b c : Bool) → (a && (b && c)) ≡ (a && b && c)
regroup true b c = refl
regroup false b c = refl

-- the ends of a lightpath
pub ends_both : (ns : List Bool) (e : Ends) → lightpath_ends ns e ≡ true → (get_or ns e.from false ≡ true) × (get_or ns e.to false ≡ true)
unfolding lightpath_ends
ends_both ns e h = and_inv {a = get_or ns e.from false} (and_inv {a = get_or ns e.from false && get_or ns e.to false} h).0

pub ends_same : (ns : List Bool) (e : Ends) → ends_fit (length ns) (station_set ns) e.from e.to ≡ lightpath_ends ns e
unfolding lightpath_ends
ends_same ns e = go (dec_lt e.from (length ns)) (dec_lt e.to (length ns))
  where
    go : Dec (e.from < length ns) → Dec (e.to < length ns) → ends_fit (length ns) (station_set ns) e.from e.to ≡ (get_or ns e.from false && get_or ns e.to false && not (eqb e.from e.to))
    go (yes a) (yes b) = rw (lt-ltb e.from (length ns) a, lt-ltb e.to (length ns) b, station_has ns e.from, station_has ns e.to) (regroup (get_or ns e.from false) (get_or ns e.to false) (not (eqb e.from e.to)))
    go (yes a) (no b) =
        rw (lt-ltb e.from (length ns) a, le-ltb e.to (length ns) (omega arith), get_or-eq_default ns false {n = e.to} (omega arith), and_none (get_or ns e.from false))
    go (no a) b = rw (le-ltb e.from (length ns) (omega arith), get_or-eq_default ns false {n = e.from} (omega arith))
