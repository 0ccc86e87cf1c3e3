-- THE LOADS, route by route: a place more of a route counts its span once more, and a number that no span has counts for none.
-- So after the last row each load is how often its span stands in the rows; of a book's rows that is once for each lightpath that rides it.
use Prim.Native.Nat.{ℕ, ◌+◌, ◌*◌, ◌<◌, ◌≤◌, min, zero-le}
use mathlib.Core.Path.{◌≡◌, sym, ap, ◌∙◌, subst}
use mathlib.Core.List.{List}
use mathlib.Core.Bool.{Bool, true}
use native.Mathlib.Numerals.{add-one}
use native.Mathlib.Decide.{ℕ_discrete, dec_lt}
use native.Mathlib.Omega.{arith}
use lib.ListN.{length, get_or, take, drop, set, replicate, length-set, length-take, length-replicate, get_or-replicate, get_or-eq_default}
use lib.Seq.{take-suc, take_all, get_or-set_same, get_or-set_other}
use lib.Dec.{eqb}
use borrow.Author.Tests.{eq-eqb, ne_eqb}
use Rattle.book.specs.declared.Book.{Book}
use Rattle.book.specs.Book.{Lightpath, RouteBook, count, length_fits, lightpath_ends, route_fits, well_formed}
use Rattle.book.specs.Memory.{book_of}
use Rattle.book.specs.Choice.{lightpath_at}
use Rattle.book.proofs.Tests.{and_inv}
use Rattle.book.proofs.Stands.{length_most}
use Rattle.book.proofs.Bounds.{lightpath-fits}
use Rattle.book.proofs.Once.{once, count_none, count_most, count_last}
use Rattle.book.proofs.Writers.{row_here, len_here}
use Rattle.judgement.specs.Judgement.{rides, sum, one, load}
use Rattle.judgement.specs.Arrays.{row_in, load_in}
use Rattle.judgement.specs.Holding.{Room, Counted, Loads}
use Rattle.judgement.proofs.Sums.{sum_next, sum_alike, sum_most}

module _ (before r : List ℕ) where
  pub counted_start : length before ≡ 128 → Counted before (take 0 r) before
  counted_start long = record { long = long; each = λ x l. omega (arith, count_none x) }

  module _ {j : ℕ} {loads : List ℕ} (l : j < length r) (now : Counted before (take j r) loads) where
    abbrev y : ℕ
    y = get_or r j 0

    more : (x : ℕ) → count x (take (j + 1) r) ≡ count x (take j r) + one (eqb y x)
    more x = rw (add-one, take-suc r j 0) (count_last x y (take j r))

    same : (x : ℕ) → (y ≡ x → ⊥) → count x (take (j + 1) r) ≡ count x (take j r)
    same x n = omega (arith, more x ∙ ap (λ (t : Bool). count x (take j r) + one t) (ne_eqb y x n))

    pub counted_next : y < 128 → Counted before (take (j + 1) r) (set loads y (get_or loads y 0 + 1))
    counted_next low = record { long = length-set loads _ _ ∙ now.long; each = λ x q. go x q (ℕ_discrete y x) }
      where
        go : (x : ℕ) → x < 128 → Dec (y ≡ x) → get_or (set loads y (get_or loads y 0 + 1)) x 0 ≡ get_or before x 0 + count x (take (j + 1) r)
        go x q (yes e) =
            ap (λ (n : ℕ). get_or (set loads y (get_or loads y 0 + 1)) n 0) (sym e) ∙ get_or-set_same loads y _ 0 (omega (arith, now.long))
            ∙ omega (arith, ap (λ (n : ℕ). get_or loads n 0) e, now.each x q, more x ∙ ap (λ (t : Bool). count x (take j r) + one t) (eq-eqb y x e))
        go x q (no n) = get_or-set_other loads y x _ 0 (λ e. n (sym e)) ∙ omega (arith, now.each x q, same x n)

    pub counted_past : 128 ≤ y → Counted before (take (j + 1) r) loads
    counted_past high = record { long = now.long; each = λ x q. omega (arith, now.each x q, same x (λ e. omega (arith, e))) }

-- a row is no longer than a route can be
row_short : (b : Book) (k : ℕ) → length (row_in b k) ≤ 16
row_short b k = omega (arith, length-take (min (get_or b.len k 0) 16) (drop (16 * k) b.route))

-- the loads of the first k rows
pub record Tallied (b : Book) (k : ℕ) (loads : List ℕ) : Type 0 where
  pub few : k ≤ b.lightpaths
  pub long : length loads ≡ 128
  pub each : (x : ℕ) → x < 128 → get_or loads x 0 ≡ sum (λ i. count x (row_in b i)) k

module _ (b : Book) where
  pub tallied_start : Tallied b 0 (replicate 128 0)
  unfolding sum
  tallied_start = record { few = zero-le; long = length-replicate {A = ℕ} 128 0; each = λ x l. get_or-replicate 128 x 0 0 l }

  module _ {k : ℕ} {loads : List ℕ} (now : Tallied b k loads) where
    pub tallied_next : {next : List ℕ} → k < b.lightpaths → Counted loads (row_in b k) next → Tallied b (k + 1) next
    tallied_next l c = record {
      few = omega arith;
      long = c.long;
      each = λ x q. c.each x q ∙ omega (arith, now.each x q, sum_next (λ i. count x (row_in b i)) k);
    }

    tallied_most : (x : ℕ) → get_or loads x 0 ≤ 16 * k
    tallied_most x = go (dec_lt x 128)
      where
        most : (i : ℕ) → i < k → count x (row_in b i) ≤ 16
        most i l = omega (arith, count_most x (row_in b i), row_short b i)

        go : Dec (x < 128) → get_or loads x 0 ≤ 16 * k
        go (yes q) = omega (arith, now.each x q, sum_most 16 (λ i. count x (row_in b i)) k most)
        go (no q) = omega (arith, get_or-eq_default loads 0 {n = x} (omega (arith, now.long)))

    pub tallied_room : b.lightpaths ≤ 96 → Room loads (row_in b k)
    tallied_room few = record { long = now.long; short = row_short b k; few = λ x. omega (arith, tallied_most x, now.few) }

-- the route of lightpath k fits, and so holds no span twice
module _ (m : RouteBook) (fits : well_formed m ≡ true) where
  module _ (k : ℕ) (l : k < length m.lightpaths) where
    abbrev path : Lightpath
    path = lightpath_at m.lightpaths k

    pub route-fits : route_fits m.spans path.ends path.route ≡ true
    route-fits = (and_inv {a = lightpath_ends m.nodes path.ends} (lightpath-fits m fits k l)).1

    pub route_short : length path.route.spans ≤ 16
    route_short = let n = length path.route.spans in length_most n (and_inv {a = length_fits n} route-fits).0

    -- and its row is that route
    row_is : row_in (book_of m) k ≡ path.route.spans
    row_is =
        let n : min (get_or (book_of m).len k 0) 16 ≡ get_or (book_of m).len k 0 = omega (arith, len_here m k l, route_short) in
        ap (λ (i : ℕ). take i (drop (16 * k) (book_of m).route)) n ∙ row_here m fits k l

  -- THE LAW: the load that the arrays have of a span is the number of lightpaths that ride it
  pub load-in : (x : ℕ) → load_in (book_of m) x ≡ load m x
  load-in x = sum_alike (λ i. count x (row_in (book_of m) i)) (λ i. one (rides m x i)) (length m.lightpaths)
      (λ k l. ap (count x) (row_is k l) ∙ once m.spans (path k l).ends (path k l).route (route-fits k l) x)
