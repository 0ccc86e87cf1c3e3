-- The walk of a route, as the code makes it: span by span over two arrays of ends, with the nodes met as a set, fails where the walk of the route
-- rule does. A set holds what a list holds after each step, and an array that is a list and then noughts reads as the list.
use Prim.Native.Nat.{ℕ, zero, suc, ◌+◌, ◌≤◌, ◌<◌}
use mathlib.Core.Path.{◌≡◌, refl, sym, ap, ◌∙◌, subst}
use mathlib.Core.List.{List, [], ◌∷◌}
use mathlib.Core.Bool.{Bool, true, false, cond, not, ◌||◌, ◌&&◌}
use native.Mathlib.Decide.{ℕ_discrete}
use native.Mathlib.Numerals.{add-one}
use native.Mathlib.Omega.{arith}
use lib.ListN.{length, get_or, drop, drop_of_length-le}
use lib.Seq.{drop-cons, drop-drop}
use lib.Dec.{eqb, ltb, leb}
use borrow.Author.Tests.{eq-eqb, ne_eqb, lt-ltb, le-ltb, ltb-true, ltb-false, leb-true, leb-false}
use Rattle.std.specs.Prelude.{Option, Some, None, position, nat_lt}
use Rattle.std.specs.List.{position_or_len}
use Rattle.std.proofs.lemmas.List.Quantifiers.{position-Some}
use Rattle.book.specs.Bits.{bit, has, put}
use Rattle.book.specs.Book.{Span, among, below, span_at, far, walks}
use Rattle.book.specs.Format.{from_high, from_stray}
use Rattle.book.specs.Inside.{far_in, goes_in, stray_in, hop_of}
use Rattle.book.proofs.Tests.{and_inv, and_both}
use Rattle.book.proofs.Bits.{put_same, put_other, bit_of_zero}
use Rattle.book.proofs.Strays.{goes, walk_passes, from_passes, walk_stops, from_stops}

-- one more of a route
pub route_cons : (r : List ℕ) (j : ℕ) → j < length r → drop j r ≡ get_or r j 0 ∷ drop (j + 1) r
route_cons r j l = drop-cons r j 0 l ∙ rw add-one

hop_to : (t : Bool) (f q : ℕ) → cond t (Some f) None ≡ Some q → (t ≡ true) × (f ≡ q)
hop_to true f q e = (refl, cc)
hop_to false f q e = (cc, cc)

hop_off : (t : Bool) (f : ℕ) → cond t (Some f) None ≡ None → t ≡ false
hop_off true f e = cc
hop_off false f e = refl

one_low : (t : Bool) (a b n : ℕ) → a < n → b < n → cond t b a < n
one_low true a b n p q = q
one_low false a b n p q = p

-- one step of the walk, by the answer of `step_over`
module _ (left right : List ℕ) (met p x : ℕ) (r : Option ℕ) (e : r ≡ hop_of left right met p x) where
  pub walk_on : (last j q : ℕ) (xs : List ℕ) (t : ℕ) → r ≡ Some q → stray_in left right met p last j (x ∷ xs) t ≡ stray_in left right (put met q) q j (j + 1) xs t
  unfolding stray_in
  walk_on last j q xs t h = let z = hop_to (goes_in left right met p x) (far_in left right p x) q (sym e ∙ h) in rw (z.0, z.1)

  pub walk_off : (last j : ℕ) (xs : List ℕ) (t : ℕ) → r ≡ None → stray_in left right met p last j (x ∷ xs) t ≡ Some j
  unfolding stray_in
  walk_off last j xs t h = rw (hop_off (goes_in left right met p x) (far_in left right p x) (sym e ∙ h))

  pub hop_low : (q : ℕ) → ((i : ℕ) → get_or left i 0 < 64) → ((i : ℕ) → get_or right i 0 < 64) → r ≡ Some q → q < 64
  hop_low q left_low right_low h =
      let z = hop_to (goes_in left right met p x) (far_in left right p x) q (sym e ∙ h) in
      subst (λ (k : ℕ). k < 64) z.1 (one_low (eqb (get_or left x 0) p) _ _ 64 (left_low x) (right_low x))

pub walk_end : (left right : List ℕ) (met p last : ℕ) (r : List ℕ) (j t : ℕ) → length r ≤ j → stray_in left right met p last j (drop j r) t ≡ cond (eqb p t) None (Some last)
unfolding stray_in
walk_end left right met p last r j t l = rw (drop_of_length-le r {i = j} l)

-- span numbers, one by one
pub below_at : (n : ℕ) (r : List ℕ) (j : ℕ) → below n r ≡ true → j < length r → get_or r j 0 < n
unfolding below
below_at n [] j h l = absurd (omega arith)
below_at n (x ∷ r) zero h l = ltb-true x n (and_inv {a = ltb x n} h).0
below_at n (x ∷ r) (suc j) h l = below_at n r j (and_inv {a = ltb x n} h).1 (omega arith)

pub below_wider : (n m : ℕ) (r : List ℕ) → n ≤ m → below n r ≡ true → below m r ≡ true
unfolding below
below_wider n m [] l h = refl
below_wider n m (x ∷ r) l h = let z = and_inv {a = ltb x n} h in and_both (lt-ltb x m (omega (arith, ltb-true x n z.0))) (below_wider n m r l z.1)

pub below_all : (n : ℕ) (r : List ℕ) → ((j : ℕ) → get_or r j 0 < n) → below n r ≡ true
unfolding below
below_all n [] h = refl
below_all n (x ∷ r) h = and_both (lt-ltb x n (h 0)) (below_all n r (λ j. h (suc j)))

pub below_more : (n : ℕ) (r : List ℕ) (j : ℕ) → j < length r → get_or r j 0 < n → below n (drop j r) ≡ below n (drop (j + 1) r)
unfolding below
below_more n r j l h = rw (route_cons r j l, lt-ltb (get_or r j 0) n h)

pub below_stop : (n : ℕ) (r : List ℕ) (j : ℕ) → j < length r → n ≤ get_or r j 0 → below n (drop j r) ≡ false
unfolding below
below_stop n r j l h = rw (route_cons r j l, le-ltb (get_or r j 0) n h)

pub high_more : (n : ℕ) (r : List ℕ) (j : ℕ) → j < length r → get_or r j 0 < n → from_high n (drop j r) ≡ from_high n (drop (j + 1) r)
unfolding from_high
high_more n r j l h = rw (route_cons r j l, lt-ltb (get_or r j 0) n h)

pub high_stop : (n : ℕ) (r : List ℕ) (j : ℕ) → j < length r → n ≤ get_or r j 0 → from_high n (drop j r) ≡ drop j r
unfolding from_high
high_stop n r j l h = rw (route_cons r j l, le-ltb (get_or r j 0) n h)

-- where a number of a route is too high: at the first that is not below n
abbrev pub HighAt : ℕ → List ℕ → Option ℕ → Type 0
HighAt n r None = below n r ≡ true
HighAt n r (Some i) = (below n r ≡ false) × (drop i r ≡ from_high n r) × (i ≤ length r)

-- past i numbers that are below n
low_until : (n : ℕ) (r : List ℕ) (i : ℕ) → i ≤ length r → ((k : ℕ) → k < i → leb n (get_or r k 0) ≡ false) → (below n r ≡ below n (drop i r)) × (from_high n r ≡ from_high n (drop i r))
low_until n r zero l h = (refl, refl)
low_until n r (suc i) l h =
    let p = low_until n r i (omega arith) (λ k m. h k (omega arith)) in
    let m = leb-false n (get_or r i 0) (h i (omega arith)) in
    rw (← add-one i) (p.0 ∙ below_more n r i (omega arith) m, p.1 ∙ high_more n r i (omega arith) m)

all_low : (n : ℕ) (r : List ℕ) → length r ≤ position_or_len (leb n) r → below n r ≡ true
unfolding below
all_low n [] h = refl
all_low n (x ∷ r) h = go (leb n x) refl h (all_low n r)
  where
    go : (t : Bool) → leb n x ≡ t → suc (length r) ≤ cond (not t) (1 + position_or_len (leb n) r) 0 → (length r ≤ position_or_len (leb n) r → below n r ≡ true) → (ltb x n && below n r) ≡ true
    go true e l rest = absurd (omega arith)
    go false e l rest = and_both (lt-ltb x n (leb-false n x e)) (rest (omega arith))

pub high_at : (n : ℕ) (r : List ℕ) (a : Option ℕ) → a ≡ position (leb n) r → HighAt n r a
high_at n r None e = go (nat_lt (position_or_len (leb n) r) (length r)) refl e
  where
    go : (t : Bool) → nat_lt (position_or_len (leb n) r) (length r) ≡ t → None ≡ cond t (Some (position_or_len (leb n) r)) None → below n r ≡ true
    go true p q = absurd (cc)
    go false p q = all_low n r (ltb-false _ _ p)
high_at n r (Some i) e =
    let p = position-Some (leb n) r i 0 (sym e) in
    let l : i ≤ length r = omega (arith, p.0) in
    let u = low_until n r i l p.2 in
    let m = leb-true n (get_or r i 0) p.1 in
    (u.0 ∙ below_stop n r i p.0 m, sym (u.1 ∙ high_stop n r i p.0 m), l)

-- a set of the nodes met, and the list of them
abbrev Same : ℕ → List ℕ → Type 0
Same x met = (i : ℕ) → among i met ≡ has x i

put_met : (x q : ℕ) (met : List ℕ) → Same x met → Same (put x q) (q ∷ met)
unfolding has
put_met x q met h i = go (ℕ_discrete i q)
  where
    go : Dec (i ≡ q) → (eqb i q || among i met) ≡ eqb (bit (put x q) i) 1
    go (yes e) = rw (eq-eqb i q e, e, put_same x q)
    go (no n) = rw (ne_eqb i q n, put_other x q i n) (h i)

-- what an answer says of the walk over r, which is what is left of the whole route
abbrev pub StrayAt : List Span → List ℕ → List ℕ → ℕ → ℕ → List ℕ → Option ℕ → Type 0
StrayAt sps whole met p t r None = walks sps met p r t ≡ true
StrayAt sps whole met p t r (Some i) = (walks sps met p r t ≡ false) × (drop i whole ≡ from_stray sps met p r)

module _ (sps : List Span) (left right : List ℕ) (is_left : (x : ℕ) → get_or left x 0 ≡ (span_at sps x).left) (is_right : (x : ℕ) → get_or right x 0 ≡ (span_at sps x).right)
    (whole : List ℕ) (t : ℕ) where
  -- past a span that the walk passes
  passed : (met : List ℕ) (p x : ℕ) (xs : List ℕ) → goes sps met p x ≡ true → 1 ≤ length xs
      → (a : Option ℕ) → StrayAt sps whole (far (span_at sps x) p ∷ met) (far (span_at sps x) p) t xs a → StrayAt sps whole met p t (x ∷ xs) a
  passed met p x xs g n None h = walk_passes sps met p x g xs t ∙ h
  passed met p x xs g n (Some i) h = (walk_passes sps met p x g xs t ∙ h.0, h.1 ∙ sym (from_passes sps met p x g xs n))

  -- one span: the walk fails at it, or goes on as it does after it
  turn : (x : ℕ) (xs met : List ℕ) (m p last j : ℕ) → Same m met → drop j whole ≡ x ∷ xs
      → (goes sps met p x ≡ true → StrayAt sps whole met p t (x ∷ xs) (stray_in left right (put m (far (span_at sps x) p)) (far (span_at sps x) p) j (j + 1) xs t))
      → StrayAt sps whole met p t (x ∷ xs) (stray_in left right m p last j (x ∷ xs) t)
  unfolding stray_in
  turn x xs met m p last j h e on = rw (is_left x, is_right x, ← h (far (span_at sps x) p)) (go (goes sps met p x) refl)
    where
      go : (u : Bool) → goes sps met p x ≡ u → StrayAt sps whole met p t (x ∷ xs) (cond u (stray_in left right (put m (far (span_at sps x) p)) (far (span_at sps x) p) j (j + 1) xs t) (Some j))
      go true g = on g
      go false g = (walk_stops sps met p x g xs t, e ∙ sym (from_stops sps met p x g xs))

  stray_same : (x : ℕ) (xs met : List ℕ) (m p last j : ℕ) → Same m met → drop j whole ≡ x ∷ xs → StrayAt sps whole met p t (x ∷ xs) (stray_in left right m p last j (x ∷ xs) t)
  unfolding stray_in walks from_stray
  stray_same x [] met m p last j h e = turn x [] met m p last j h e (λ g. go g (eqb (far (span_at sps x) p) t) refl)
    where
      go : goes sps met p x ≡ true → (u : Bool) → eqb (far (span_at sps x) p) t ≡ u → StrayAt sps whole met p t (x ∷ []) (cond u None (Some j))
      go g true f = walk_passes sps met p x g [] t ∙ f
      go g false f = (walk_passes sps met p x g [] t ∙ f, e)
  stray_same x (y ∷ ys) met m p last j h e =
      turn x (y ∷ ys) met m p last j h e λ g.
      let q = far (span_at sps x) p in
      passed met p x (y ∷ ys) g (omega arith) (stray_in left right (put m q) q j (j + 1) (y ∷ ys) t)
      (stray_same y ys (q ∷ met) (put m q) q j (j + 1) (put_met m q met h) (sym (drop-drop 1 j whole) ∙ ap (drop 1) e))

  -- THE LAW
  pub stray-in : (a : ℕ) → 1 ≤ length whole → StrayAt sps whole (a ∷ []) a t whole (stray_in left right (put 0 a) a 0 0 whole t)
  unfolding has
  stray-in a n =
      let e : whole ≡ get_or whole 0 0 ∷ drop 1 whole = route_cons whole 0 n in
      let s = stray_same (get_or whole 0 0) (drop 1 whole) (a ∷ []) (put 0 a) a 0 0 (put_met 0 a [] (λ i. rw (bit_of_zero i))) e in
      subst (λ (r : List ℕ). StrayAt sps whole (a ∷ []) a t r (stray_in left right (put 0 a) a 0 0 r t)) (sym e) s
