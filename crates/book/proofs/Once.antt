-- A ROUTE HOLDS NO SPAN TWICE: a walk that has passed a span has met both its ends, and would have to meet one of them again to pass it once more.
-- So how often a span stands in a route is 1 where the route holds it and else 0, and counting places counts each lightpath once.
use Prim.Native.Nat.{ℕ, ◌+◌, ◌≤◌, zero-le}
use mathlib.Core.Path.{◌≡◌, refl, sym, ap, ◌∙◌, subst}
use mathlib.Core.List.{List, [], ◌∷◌, ◌++◌}
use mathlib.Core.Bool.{Bool, true, false, cond, not, ◌&&◌, ◌||◌, false≢true}
use native.Mathlib.Decide.{ℕ_discrete}
use native.Mathlib.Omega.{arith}
use lib.ListN.{length}
use lib.Dec.{eqb}
use borrow.Author.Tests.{eq-eqb, ne_eqb, eqb-true}
use Rattle.book.specs.Book.{Span, Ends, Route, among, below, count, length_fits, span_at, touches, far, walks, route_fits}
use Rattle.book.proofs.Tests.{and_inv}
use Rattle.book.proofs.Tallies.{one_most}

-- how often a number stands in a list, place by place
pub count_none : (x : ℕ) → count x [] ≡ 0
unfolding count
count_none x = refl

pub count_most : (x : ℕ) (r : List ℕ) → count x r ≤ length r
unfolding count
count_most x [] = zero-le
count_most x (y ∷ r) = omega (arith, one_most (eqb y x), count_most x r)

pub count_last : (x y : ℕ) (r : List ℕ) → count x (r ++ y ∷ []) ≡ count x r + cond (eqb y x) 1 0
unfolding count
count_last x y [] = omega arith
count_last x y (z ∷ r) = omega (arith, count_last x y r)

-- what a list has, it has with one more; and the one more
pub among_more : (x y : ℕ) (ys : List ℕ) → among x ys ≡ true → among x (y ∷ ys) ≡ true
among_more x y ys h = go (eqb x y)
  where
    go : (t : Bool) → (t || among x ys) ≡ true
    go true = refl
    go false = h

pub among_first : (x y : ℕ) (ys : List ℕ) → x ≡ y → among x (y ∷ ys) ≡ true
among_first x y ys e = rw (eq-eqb x y e)

module _ (sps : List Span) where
  -- one step of a walk: the span has p at one end, leads to a node not met yet, and the walk goes on there
  pub record Step (met : List ℕ) (p x : ℕ) (xs : List ℕ) (t : ℕ) : Type 0 where
    pub ends : touches (span_at sps x) p ≡ true
    pub new : not (among (far (span_at sps x) p) met) ≡ true
    pub on : walks sps (far (span_at sps x) p ∷ met) (far (span_at sps x) p) xs t ≡ true

  pub step : (met : List ℕ) (p x : ℕ) (xs : List ℕ) (t : ℕ) → walks sps met p (x ∷ xs) t ≡ true → Step met p x xs t
  unfolding walks
  step met p x xs t w =
      let a = and_inv {a = touches (span_at sps x) p && not (among (far (span_at sps x) p) met)} w in
      let b = and_inv {a = touches (span_at sps x) p} a.0 in
      record { ends = b.0; new = b.1; on = a.1 }

  -- both ends of a span are met
  abbrev Met : List ℕ → ℕ → Type 0
  Met met x = (among (span_at sps x).left met ≡ true) × (among (span_at sps x).right met ≡ true)

  met_far : (met : List ℕ) (p x : ℕ) → Met met x → among (far (span_at sps x) p) met ≡ true
  met_far met p x h = go (eqb (span_at sps x).left p)
    where
      go : (u : Bool) → among (cond u (span_at sps x).right (span_at sps x).left) met ≡ true
      go true = h.1
      go false = h.0

  -- such a span comes no more
  gone : (x : ℕ) (r met : List ℕ) (p t : ℕ) → Met met x → walks sps met p r t ≡ true → count x r ≡ 0
  unfolding count
  gone x [] met p t h w = refl
  gone x (y ∷ ys) met p t h w =
      let s = step met p y ys t w in
      let q = far (span_at sps y) p in
      go s (ℕ_discrete y x) (gone x ys (q ∷ met) q t (among_more (span_at sps x).left q met h.0, among_more (span_at sps x).right q met h.1) s.on)
    where
      go : Step met p y ys t → Dec (y ≡ x) → count x ys ≡ 0 → cond (eqb y x) 1 0 + count x ys ≡ 0
      go s (yes e) ih = absurd (false≢true (sym (ap not (met_far met p y (subst (Met met) (sym e) h))) ∙ s.new))
      go s (no n) ih = rw (ne_eqb y x n) (omega arith)

  -- a step meets both ends of its span
  passed : (met : List ℕ) (p x : ℕ) → among p met ≡ true → touches (span_at sps x) p ≡ true → Met (far (span_at sps x) p ∷ met) x
  passed met p x hp = go (eqb (span_at sps x).left p) refl
    where
      a : ℕ
      a = (span_at sps x).left

      b : ℕ
      b = (span_at sps x).right

      go : (u : Bool) → eqb a p ≡ u → (u || eqb b p) ≡ true → (among a (cond u b a ∷ met) ≡ true) × (among b (cond u b a ∷ met) ≡ true)
      go true e h = (among_more a b met (ap (λ (n : ℕ). among n met) (eqb-true a p e) ∙ hp), among_first b b met refl)
      go false e h = (among_first a a met refl, among_more b a met (ap (λ (n : ℕ). among n met) (eqb-true b p h) ∙ hp))

  walk_once : (x : ℕ) (r met : List ℕ) (p t : ℕ) → among p met ≡ true → walks sps met p r t ≡ true → count x r ≡ cond (among x r) 1 0
  unfolding count
  walk_once x [] met p t hp w = refl
  walk_once x (y ∷ ys) met p t hp w =
      let s = step met p y ys t w in
      let q = far (span_at sps y) p in
      go s (ℕ_discrete x y) (walk_once x ys (q ∷ met) q t (among_first q q met refl) s.on)
    where
      go : Step met p y ys t → Dec (x ≡ y) → count x ys ≡ cond (among x ys) 1 0 → cond (eqb y x) 1 0 + count x ys ≡ cond (eqb x y || among x ys) 1 0
      go s (yes e) ih =
          let q = far (span_at sps y) p in
          let z : count x ys ≡ 0 = gone x ys (q ∷ met) q t (subst (Met (q ∷ met)) (sym e) (passed met p y hp s.ends)) s.on in
          rw (eq-eqb y x (sym e), eq-eqb x y e) (omega (arith, z))
      go s (no n) ih = rw (ne_eqb y x (λ e. n (sym e)), ne_eqb x y n) (omega (arith, ih))

  -- THE LAW
  pub once : (e : Ends) (r : Route) → route_fits sps e r ≡ true → (x : ℕ) → count x r.spans ≡ cond (among x r.spans) 1 0
  once e r h x =
      let a = and_inv {a = length_fits (length r.spans)} h in
      let b = and_inv {a = below (length sps) r.spans} a.1 in
      walk_once x r.spans (e.from ∷ []) e.from e.to (among_first e.from e.from [] refl) b.1
