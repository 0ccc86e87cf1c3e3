-- THE NODES MET, IN MEMORY: the walk over the arrays of ends puts into one word just the nodes that the route meets, and the word of stations without a
-- node is the set of those left. So what the code finds in its words is the answer of the book that the struct holds.
use Prim.Native.Nat.{ℕ, ◌+◌, ◌^◌, ◌<◌, ◌≤◌}
use mathlib.Core.Path.{◌≡◌, refl, sym, ap, ap₂, ◌∙◌, subst}
use mathlib.Core.List.{List, [], ◌∷◌}
use mathlib.Core.Logic.{◌↔◌}
use mathlib.Core.Bool.{Bool, true, false, cond, not, ◌||◌}
use native.Mathlib.Decide.{dec_lt, ℕ_discrete}
use native.Mathlib.Omega.{arith}
use lib.Bits.{bit_xor, xor_lt}
use lib.Pow.{pow_pos}
use lib.Count.{count_trailing_zeros}
use lib.Dec.{eqb}
use lib.ListN.{length, get_or, set, drop, replicate, length-set, length-replicate, get_or-eq_default, drop_of_length-le}
use lib.Seq.{get_or-set_same, get_or-set_other}
use Rattle.book.specs.declared.Book.{Book}
use Rattle.book.specs.Book.{Span, Lightpath, RouteBook, among, below, span_at, far, length_fits, met_on, well_formed}
use Rattle.book.specs.Bits.{bit, has, put}
use Rattle.book.specs.Choice.{lightpath_at}
use Rattle.book.specs.Memory.{book_of}
use Rattle.book.proofs.Bits.{bit_of_zero, has_true, has_false, true_has, put_lt}
use Rattle.book.proofs.Tests.{and_inv}
use Rattle.book.proofs.Bounds.{counts, stations_lt, span-ends}
use Rattle.book.proofs.Walking.{route_cons, below_wider}
use Rattle.book.proofs.Lightpaths.{column_at}
use Rattle.book.proofs.Writers.{no_lightpath, row_here, len_here}
use Rattle.book.proofs.NodesMet.{met_none, met_next}
use Rattle.judgement.specs.Network.{side_of}
use Rattle.judgement.specs.Judgement.{stations}
use Rattle.judgement.specs.Inside.{net_of, unset}
use Rattle.judgement.specs.Holding.{Held}
use Rattle.judgement.specs.Closing.{EndsLow, other_end, met_in, route_in, met_of, MetBy, left_in, side_left_by, site_in}
use Rattle.judgement.specs.Sites.{meets, spared, stations_left, lowest_left, side_left, stands, site_of}
use Rattle.std.specs.Prelude.{None}
use Rattle.judgement.specs.Sites.{down_at}
use Rattle.judgement.proofs.Sets.{set_same, has_put, taken_out, lacks_bit}
use Rattle.judgement.proofs.First.{first_alike}
use Rattle.judgement.proofs.Held.{alike}
use Rattle.judgement.proofs.Loads.{route-fits, route_short}
use Rattle.judgement.proofs.Sites.{left_is, left_lt}

-- one step of the walk, and its end
module _ (left right : List ℕ) (met p : ℕ) (r : List ℕ) (j : ℕ) where
  pub walk_next : j < length r → met_in left right met p (drop j r) ≡ met_in left right (put met p) (other_end left right (get_or r j 0) p) (drop (j + 1) r)
  unfolding met_in
  walk_next l = rw (route_cons r j l)

  pub walk_done : length r ≤ j → met_in left right met p (drop j r) ≡ put met p
  unfolding met_in
  walk_done l = rw (drop_of_length-le r {i = j} l)

-- the other end of a span is a node's number where both are
pub end_low : {left right : List ℕ} → EndsLow left right → (x p : ℕ) → other_end left right x p < 64
end_low {left} {right} low x p = go (eqb (get_or left x 0) p)
  where
    go : (t : Bool) → cond t (get_or right x 0) (get_or left x 0) < 64
    go true = low.right_low x
    go false = low.left_low x

-- what the walk has put in is what the route meets
module _ (sps : List Span) (left right : List ℕ) (is_left : (x : ℕ) → get_or left x 0 ≡ (span_at sps x).left) (is_right : (x : ℕ) → get_or right x 0 ≡ (span_at sps x).right) where
  met_has : (r : List ℕ) (w p i : ℕ) → has (met_in left right w p r) i ≡ (has w i || among i (met_on sps p r))
  unfolding met_in
  met_has [] w p i = has_put w p i ∙ last (eqb i p) (has w i) ∙ ap (λ (l : List ℕ). has w i || among i l) (sym (met_none sps p))
    where
      last : (a b : Bool) → (a || b) ≡ (b || (a || false))
      last true true = refl
      last true false = refl
      last false true = refl
      last false false = refl
  met_has (x ∷ xs) w p i =
      rw (is_left x, is_right x)
      (met_has xs (put w p) (far (span_at sps x) p) i
      ∙ ap (λ (t : Bool). t || among i (met_on sps (far (span_at sps x) p) xs)) (has_put w p i)
      ∙ next (eqb i p) (has w i) (among i (met_on sps (far (span_at sps x) p) xs))
      ∙ ap (λ (l : List ℕ). has w i || among i l) (sym (met_next sps p x xs)))
    where
      next : (a b c : Bool) → ((a || b) || c) ≡ (b || (a || c))
      next true true c = refl
      next true false c = refl
      next false b c = refl

module _ (m : RouteBook) (fits : well_formed m ≡ true) where
  -- the ends of the spans are nodes
  ends_low : EndsLow (book_of m).left (book_of m).right
  ends_low = record {
    left_low = λ x. rw (column_at 128 (λ (s : Span). s.left) m.spans _ refl x) (low (λ (s : Span). s.left) refl (λ l. (span-ends m fits x l).0));
    right_low = λ x. rw (column_at 128 (λ (s : Span). s.right) m.spans _ refl x) (low (λ (s : Span). s.right) refl (λ l. (span-ends m fits x l).1));
  }
    where
      low : {x : ℕ} (f : Span → ℕ) → f (span_at [] 0) ≡ 0 → (x < length m.spans → f (span_at m.spans x) < length m.nodes) → f (span_at m.spans x) < 64
      low {x} f z h = elim (dec_lt x (length m.spans)) [
        | yes l ↦ omega (arith, h l, (counts m fits).0)
        | no n ↦ omega (arith, ap f (get_or-eq_default m.spans (span_at [] 0) {n = x} (omega (arith, n))), z)
      ]

  module _ (k : ℕ) (l : k < length m.lightpaths) where
    abbrev path : Lightpath
    path = lightpath_at m.lightpaths k

    -- the numbers in a route are those of spans
    route_low : below 128 (route_in (book_of m) k) ≡ true
    route_low =
        let n = length path.route.spans in
        let low = (and_inv {a = below (length m.spans) path.route.spans} (and_inv {a = length_fits n} (route-fits m fits k l)).1).0 in
        rw (row_here m fits k l) (below_wider (length m.spans) 128 path.route.spans (counts m fits).1 low)

    -- THE LAW of the words
    met_is : (i : ℕ) → has (met_of (book_of m) k) i ≡ meets m i k
    met_is i =
        rw (column_at 96 (λ (p : Lightpath). p.ends.from) m.lightpaths no_lightpath refl k, row_here m fits k l)
        (met_has m.spans (book_of m).left (book_of m).right (column_at 128 (λ (s : Span). s.left) m.spans _ refl) (column_at 128 (λ (s : Span). s.right) m.spans _ refl) path.route.spans 0 path.ends.from i
        ∙ ap (λ (t : Bool). t || meets m i k) (has_false 0 i (bit_of_zero i)))

-- THE STATIONS LEFT, by the machine's xor
module _ (all v : ℕ) where
  left_bit : (i : ℕ) → (bit (left_in all v) i ≡ 1) ↔ ((bit all i ≡ 1) × (i ≡ v → ⊥))
  left_bit i = go (has all v) refl
    where
      go : (t : Bool) → has all v ≡ t → (bit (cond t (bit_xor all (put 0 v)) all) i ≡ 1) ↔ ((bit all i ≡ 1) × (i ≡ v → ⊥))
      go true h = taken_out all v i (true_has all v h)
      go false h = ((λ b. (b, λ e. omega (arith, b, ap (bit all) e, lacks_bit all v h))), (λ p. p.0))

  left_in_lt : all < 2 ^ 64 → v < 64 → left_in all v < 2 ^ 64
  left_in_lt p q = go (has all v)
    where
      go : (t : Bool) → cond t (bit_xor all (put 0 v)) all < 2 ^ 64
      go true = xor_lt 64 all (put 0 v) p (put_lt 64 0 v (pow_pos 64) q)
      go false = p

-- the code's words hold a book: the answer in them is the book's
module _ (m : RouteBook) (fits : well_formed m ≡ true) where
  left_in_lem : (v : ℕ) → v < 64 → left_in (stations m) v ≡ stations_left m v
  left_in_lem v l = set_same 64 (left_in (stations m) v) (stations_left m v) (left_in_lt (stations m) v (stations_lt m fits) l) (left_lt m fits v) (λ i q. (
    (λ h. let p = (left_bit (stations m) v i).0 h in true_has (stations_left m v) i ((left_is m v i).1 (has_true (stations m) i p.0, p.1))),
    (λ h. let o = (left_is m v i).0 (has_true (stations_left m v) i h) in (left_bit (stations m) v i).1 (true_has (stations m) i o.0, o.1)),
  ))

  module _ {words : List ℕ} (w : MetBy (book_of m) (length m.lightpaths) words) where
    side_left_in : (v : ℕ) → v < 64 → side_left_by (book_of m) words v ≡ side_left m v
    side_left_in v l =
        ap (λ (s : ℕ). cond (eqb s 0) 0 (side_of (net_of (book_of m).lightpaths (book_of m).from (book_of m).to) (unset words v) 64 (count_trailing_zeros 64 s))) (left_in_lem v l)
        ∙ ap (λ (d : ℕ). cond (eqb (stations_left m v) 0) 0 d) (alike m (unset words v) (spared m v) (λ k q. ap (λ (x : ℕ). not (has x v)) (w.each k q) ∙ ap not (met_is m fits k q v)) (lowest_left m v))

    site_words : site_in (book_of m) words ≡ site_of m
    site_words =
        first_alike (λ v. not (eqb (side_left_by (book_of m) words v) (left_in (stations m) v))) (λ v. not (stands m v)) (λ v. down_at v (side_left_by (book_of m) words v)) (λ v. down_at v (side_left m v)) None (length m.nodes) 0 λ v a l.
        let s = side_left_in v (omega (arith, l, (counts m fits).0)) in
        (ap₂ (λ (x y : ℕ). not (eqb x y)) s (left_in_lem v (omega (arith, l, (counts m fits).0))), ap (down_at v) s)

  pub site-in : {b : Book} {words : List ℕ} → b ≡ book_of m → MetBy b b.lightpaths words → site_in b words ≡ site_of m
  site-in {b} {words} e = subst (λ (y : Book). MetBy y y.lightpaths words → site_in y words ≡ site_of m) (sym e) site_words

-- what the code relies on in a struct that holds a book
module _ {b : Book} (h : Held b) where
  pub held_nodes : b.nodes ≤ 64
  held_nodes = rw h.is (counts h.book h.fits).0

  pub held_span_ends : EndsLow b.left b.right
  held_span_ends = rw h.is (ends_low h.book h.fits)

  module _ (k : ℕ) (l : k < b.lightpaths) where
    here : k < length h.book.lightpaths
    here = subst (λ (y : Book). k < y.lightpaths) h.is l

    pub held_route : below 128 (route_in b k) ≡ true
    held_route = rw h.is (route_low h.book h.fits k here)
