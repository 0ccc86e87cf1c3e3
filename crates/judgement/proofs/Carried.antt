-- WHAT A RING GATHERS: the pieces that its lightpaths end at, and whether some span carries two of them. Two words, what was seen once and what was seen
-- twice, tell that of all spans at a time, so that the tests of the engine are those of the definition.
use Prim.Native.Nat.{ℕ, ◌+◌, ◌-◌, ◌*◌, ◌^◌, ◌<◌, ◌≤◌, ◌/◌, ◌%◌, min}
use mathlib.Core.Path.{◌≡◌, refl, sym, ap, ◌∙◌, subst, fun_ext}
use mathlib.Core.List.{List, [], ◌∷◌}
use mathlib.Core.Bool.{Bool, true, false, not, ◌&&◌, ◌||◌}
use native.Mathlib.Decide.{ℕ_discrete, dec_lt}
use native.Mathlib.Omega.{arith}
use lib.Bits.{bit_and, and_le_r, or_lt}
use lib.Dec.{eqb, leb, ltb}
use lib.Pow.{pow_pos}
use lib.ListN.{length, get_or}
use borrow.Author.Tests.{eqb-true, eqb-false, eq-eqb, ne_eqb, leb-true, le-leb, ltb-true}
use Rattle.book.specs.Book.{RouteBook, among, below, length_fits, lightpath_ends, well_formed}
use Rattle.book.specs.Bits.{bit, has, put, put_if, word_into, span_word}
use Rattle.book.specs.Choice.{lightpath_at}
use Rattle.book.specs.Memory.{routes_of, book_of}
use Rattle.book.proofs.Bits.{bit_of_zero, bit_ext, has_false, true_has, put_same, put_other, put_lt}
use Rattle.book.proofs.Bounds.{counts, lightpath-fits}
use Rattle.book.proofs.Lightpaths.{column_at}
use Rattle.book.proofs.Tests.{and_inv}
use Rattle.book.proofs.Words.{low_has, high_has}
use Rattle.judgement.specs.Network.{Network}
use Rattle.judgement.specs.Judgement.{rides, network}
use Rattle.judgement.specs.Pieces.{over}
use Rattle.judgement.specs.Contraction.{lost, touches, every, round, ring_of, sparing, merges}
use Rattle.judgement.specs.Merge.{but, seen_by, with_path, gathered, empty_trail, ring_by, trail_of, merges_by}
use Rattle.judgement.specs.declared.ring.Carried.{Carried}
use Rattle.judgement.specs.declared.ring.Trail.{Trail}
use Rattle.judgement.proofs.Held.{route_rides}
use Rattle.judgement.proofs.Lowest.{every_true, every_at}
use Rattle.judgement.proofs.Merging.{or_none, one_more, way_under, Seen, seen_none, seen_more, lost_bit, lost_alike, lost_none}

has_put : (x i j : ℕ) → has (put x i) j ≡ (eqb i j || has x j)
unfolding has
has_put x i j = go (ℕ_discrete i j)
  where
    go : Dec (i ≡ j) → eqb (bit (put x i) j) 1 ≡ (eqb i j || eqb (bit x j) 1)
    go (yes e) = rw (eq-eqb i j e) (eq-eqb (bit (put x i) j) 1 (subst (λ (q : ℕ). bit (put x i) q ≡ 1) e (put_same x i)))
    go (no n) = rw (ne_eqb i j n) (ap (λ (b : ℕ). eqb b 1) (put_other x i j (λ e. n (sym e))))

or_turn : (t b a h : Bool) → (t || (b || (a || h))) ≡ (((a || b) || t) || h)
or_turn true true true h = refl
or_turn true true false h = refl
or_turn true false true h = refl
or_turn true false false h = refl
or_turn false true true h = refl
or_turn false true false h = refl
or_turn false false true h = refl
or_turn false false false h = refl

module _ (net : Network) (low high : List ℕ) where
  touched_more : (ks : List ℕ) (t : Trail) (q : ℕ) → has (gathered net low high ks t).touched.mask q ≡ (touches net ks q || has t.touched.mask q)
  unfolding gathered touches
  touched_more [] t q = refl
  touched_more (k ∷ ks) t q =
      touched_more ks (with_path net low high t k) q
      ∙ ap (λ (b : Bool). touches net ks q || b)
      (has_put (put t.touched.mask (net.from k)) (net.to k) q ∙ ap (λ (b : Bool). eqb (net.to k) q || b) (has_put t.touched.mask (net.from k) q))
      ∙ or_turn (touches net ks q) (eqb (net.to k) q) (eqb (net.from k) q) (has t.touched.mask q)

  -- THE LAW of the pieces that a ring touches
  pub touched_is : (k q : ℕ) → has (trail_of net low high k).touched.mask q ≡ touches net (ring_by net low high k) q
  unfolding trail_of
  touched_is k q =
      touched_more (ring_by net low high k) (empty_trail net low high (net.to k)) q
      ∙ ap (λ (b : Bool). touches net (ring_by net low high k) q || b) (has_false 0 q (bit_of_zero q))
      ∙ or_none (touches net (ring_by net low high k) q)

-- the words of some lightpaths, one after the other
unfoldable seen_all : (ℕ → ℕ) → List ℕ → Carried → Carried
seen_all S [] s = s
seen_all S (k ∷ ks) s = seen_all S ks (seen_by s (S k))

module _ (net : Network) (low high : List ℕ) where
  low_seen : (ks : List ℕ) (t : Trail) → (gathered net low high ks t).low ≡ seen_all (λ k. get_or low k 0) ks t.low
  unfolding gathered seen_all
  low_seen [] t = refl
  low_seen (k ∷ ks) t = low_seen ks (with_path net low high t k)

  high_seen : (ks : List ℕ) (t : Trail) → (gathered net low high ks t).high ≡ seen_all (λ k. get_or high k 0) ks t.high
  unfolding gathered seen_all
  high_seen [] t = refl
  high_seen (k ∷ ks) t = high_seen ks (with_path net low high t k)

seen_all_lem : (S : ℕ → ℕ) (ks : List ℕ) (c : ℕ → ℕ) (s : Carried) → Seen c s → Seen (λ x. lost (λ j. has (S j) x) ks + c x) (seen_all S ks s)
unfolding seen_all lost
seen_all_lem S [] c s h = subst (λ (d : ℕ → ℕ). Seen d s) (fun_ext (λ x. omega arith)) h
seen_all_lem S (k ∷ ks) c s h =
    subst (λ (d : ℕ → ℕ). Seen d (seen_all S ks (seen_by s (S k)))) (fun_ext (λ x. omega (arith, lost_bit S x k ks)))
    (seen_all_lem S ks (λ x. bit (S k) x + c x) (seen_by s (S k)) (seen_more c s (S k) h))

seen_lt : (W : ℕ) (S : ℕ → ℕ) → ((k : ℕ) → S k < 2 ^ W) → (ks : List ℕ) (s : Carried) → s.once < 2 ^ W → s.twice < 2 ^ W → (seen_all S ks s).twice < 2 ^ W
unfolding seen_all
seen_lt W S h [] s a b = b
seen_lt W S h (k ∷ ks) s a b =
    seen_lt W S h ks (seen_by s (S k)) (or_lt W s.once (S k) a (h k))
    (or_lt W s.twice (bit_and s.once (S k)) b (omega (arith, and_le_r s.once (S k), h k)))

-- no count of the first n is above one exactly if no bit of the words is set that has the counts above one, the first for those below 64
module _ (n : ℕ) (c : ℕ → ℕ) (few : n ≤ 128) (past : (x : ℕ) → n ≤ x → c x ≡ 0) (l h : ℕ) (l-low : l < 2 ^ 64) (h-low : h < 2 ^ 64)
    (l-is : (x : ℕ) → x < 64 → bit l x ≡ min 1 (c x - 1)) (h-is : (x : ℕ) → x < 64 → bit h x ≡ min 1 (c (64 + x) - 1)) where
  most : every (λ x. leb (c x) 1) n ≡ true → (x : ℕ) → c x ≤ 1
  most e x = go (dec_lt x n)
    where
      go : Dec (x < n) → c x ≤ 1
      go (yes q) = leb-true (c x) 1 (every_at (λ y. leb (c y) 1) n e x q)
      go (no q) = omega (arith, past x (omega arith))

  low_nought : every (λ x. leb (c x) 1) n ≡ true → l ≡ 0
  low_nought e = bit_ext 64 l 0 l-low (pow_pos 64) (λ x q. omega (arith, l-is x q, bit_of_zero x, most e x))

  high_nought : every (λ x. leb (c x) 1) n ≡ true → h ≡ 0
  high_nought e = bit_ext 64 h 0 h-low (pow_pos 64) (λ x q. omega (arith, h-is x q, bit_of_zero x, most e (64 + x)))

  noughts : l ≡ 0 → h ≡ 0 → (x : ℕ) → x < n → c x ≤ 1
  noughts p q x r = go (dec_lt x 64)
    where
      go : Dec (x < 64) → c x ≤ 1
      go (yes s) = omega (arith, l-is x s, ap (λ (m : ℕ). bit m x) p, bit_of_zero x)
      go (no s) =
          let z : 64 + (x - 64) ≡ x = omega arith in
          omega (arith, h-is (x - 64) (omega arith), ap (λ (m : ℕ). bit m (x - 64)) q, bit_of_zero (x - 64), ap c z)

  all_once : every (λ x. leb (c x) 1) n ≡ (eqb l 0 && eqb h 0)
  all_once = go (eqb l 0) refl (eqb h 0) refl
    where
      not_all : (every (λ x. leb (c x) 1) n ≡ true → ⊥) → every (λ x. leb (c x) 1) n ≡ false
      not_all ne = by_case (every (λ x. leb (c x) 1) n) refl
        where
          by_case : (b : Bool) → every (λ x. leb (c x) 1) n ≡ b → b ≡ false
          by_case true e = absurd (ne e)
          by_case false e = refl

      go : (a : Bool) → eqb l 0 ≡ a → (b : Bool) → eqb h 0 ≡ b → every (λ x. leb (c x) 1) n ≡ (a && b)
      go true e true f = every_true (λ x. leb (c x) 1) n (λ x q. le-leb (c x) 1 (noughts (eqb-true l 0 e) (eqb-true h 0 f) x q))
      go true e false f = not_all (λ g. eqb-false h 0 f (high_nought g))
      go false e b f = not_all (λ g. eqb-false l 0 e (low_nought g))

-- no route holds a number that no span has
among_below : (n x : ℕ) (r : List ℕ) → below n r ≡ true → n ≤ x → among x r ≡ false
unfolding below
among_below n x [] e l = refl
among_below n x (y ∷ ys) e l =
    let b = and_inv {a = ltb y n} e in
    rw (ne_eqb x y (λ z. omega (arith, ltb-true y n b.0)), among_below n x ys b.1 l)

word_lt : (w x : ℕ) (r : List ℕ) → x < 2 ^ 64 → word_into w x r < 2 ^ 64
unfolding word_into
word_lt w x [] l = l
word_lt w x (s ∷ r) l = word_lt w (put_if (eqb (s / 64) w) x (s % 64)) r (go (eqb (s / 64) w))
  where
    go : (b : Bool) → put_if b x (s % 64) < 2 ^ 64
    go true = put_lt 64 x (s % 64) l (omega arith)
    go false = l

module _ (m : RouteBook) (fits : well_formed m ≡ true) where
  rides_past : (x k : ℕ) → length m.spans ≤ x → k < length m.lightpaths → rides m x k ≡ false
  rides_past x k l q =
      let p = lightpath_at m.lightpaths k in
      let r = (and_inv {a = lightpath_ends m.nodes p.ends} (lightpath-fits m fits k q)).1 in
      let s = (and_inv {a = length_fits (length p.route.spans)} r).1 in
      among_below (length m.spans) x p.route.spans (and_inv {a = below (length m.spans) p.route.spans} s).0 l

  words_lt : (w k : ℕ) → span_word w (get_or (routes_of m.lightpaths m.alternatives) k []) < 2 ^ 64
  words_lt w k = word_lt w 0 (get_or (routes_of m.lightpaths m.alternatives) k []) (pow_pos 64)

  low_lt : (k : ℕ) → get_or (book_of m).low k 0 < 2 ^ 64
  unfolding word_into
  low_lt k = rw (column_at 152 (span_word 0) (routes_of m.lightpaths m.alternatives) [] refl k) (words_lt 0 k)

  high_lt : (k : ℕ) → get_or (book_of m).high k 0 < 2 ^ 64
  unfolding word_into
  high_lt k = rw (column_at 152 (span_word 1) (routes_of m.lightpaths m.alternatives) [] refl k) (words_lt 1 k)

  pub low_rides : (x k : ℕ) → x < 64 → k < length m.lightpaths → has (get_or (book_of m).low k 0) x ≡ rides m x k
  low_rides x k l q = low_has m k x l ∙ route_rides m x (64 * 0 + x) k q (omega arith)

  pub high_rides : (x k : ℕ) → x < 64 → k < length m.lightpaths → has (get_or (book_of m).high k 0) x ≡ rides m (64 + x) k
  high_rides x k l q = high_has m k x l ∙ route_rides m (64 + x) (64 * 1 + x) k q (omega arith)

  module _ (piece : ℕ → ℕ) where
    -- THE LAW of the spans that a ring rides
    sparing_is : (k : ℕ) → k < length m.lightpaths → round m piece k ≡ true
        → sparing m piece (ring_of m piece k)
        ≡ (eqb (trail_of (over (network m) piece) (book_of m).low (book_of m).high k).low.twice 0
        && eqb (trail_of (over (network m) piece) (book_of m).low (book_of m).high k).high.twice 0)
    unfolding trail_of
    sparing_is k l h =
        let net = over (network m) piece in
        let low = (book_of m).low in
        let high = (book_of m).high in
        let ks = ring_of m piece k in
        let u = one_more l (way_under net (but k) (net.to k) 64 (net.from k) (true_has _ _ h)) in
        let a = seen_all_lem (λ j. get_or low j 0) ks (λ x. 0) (record { once = 0; twice = 0 }) seen_none in
        let b = seen_all_lem (λ j. get_or high j 0) ks (λ x. 0) (record { once = 0; twice = 0 }) seen_none in
        rw (low_seen net low high ks (empty_trail net low high (net.to k)), high_seen net low high ks (empty_trail net low high (net.to k)))
        (all_once (length m.spans) (λ x. lost (rides m x) ks) (counts m fits).1
        (λ x q. lost_none (rides m x) (length m.lightpaths) u (λ j r. rides_past x j q r))
        _ _
        (seen_lt 64 (λ j. get_or low j 0) low_lt ks (record { once = 0; twice = 0 }) (pow_pos 64) (pow_pos 64))
        (seen_lt 64 (λ j. get_or high j 0) high_lt ks (record { once = 0; twice = 0 }) (pow_pos 64) (pow_pos 64))
        (λ x q.
        omega (arith, a.twice_is x, lost_alike (λ j. has (get_or low j 0) x) (rides m x) (length m.lightpaths) u (λ j r. low_rides x j q r)))
        (λ x q.
        omega (arith, b.twice_is x, lost_alike (λ j. has (get_or high j 0) x) (rides m (64 + x)) (length m.lightpaths) u (λ j r. high_rides x j q r))))

    and_when : (a : Bool) {b c : Bool} → (a ≡ true → b ≡ c) → (a && b) ≡ (a && c)
    and_when true h = h refl
    and_when false h = refl

    -- THE LAW: the test on a lightpath is the definition's
    pub merges_is : (k : ℕ) → k < length m.lightpaths → merges m piece k ≡ merges_by (over (network m) piece) (book_of m).low (book_of m).high k
    unfolding merges merges_by
    merges_is k l = ap (λ (b : Bool). not (eqb (piece ((network m).from k)) (piece ((network m).to k))) && b) (and_when (round m piece k) (sparing_is k l))
