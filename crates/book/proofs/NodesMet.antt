-- THE NODES THAT A ROUTE MEETS: the walk of a route begins at one and ends at one, and the others are just the ends of its spans.
-- So whatever rides a span meets both ends of that span, and whatever ends at a node meets that node.
use Prim.Native.Nat.{ℕ}
use mathlib.Core.Path.{◌≡◌, refl, sym, subst}
use mathlib.Core.List.{List, [], ◌∷◌}
use mathlib.Core.Logic.{◌⊎◌, inl, inr}
use mathlib.Core.Bool.{Bool, true, false, cond, ◌||◌, false≢true}
use lib.ListN.{length}
use lib.Dec.{eqb}
use borrow.Author.Tests.{eqb-true, eq-eqb}
use Rattle.book.specs.Book.{Span, Ends, Route, among, below, length_fits, span_at, touches, far, walks, met_on, route_fits}
use Rattle.book.proofs.Tests.{and_inv}
use Rattle.book.proofs.Once.{among_more, among_first, step}

module _ (sps : List Span) where
  -- both ends of a span are met
  abbrev BothMet : ℕ → List ℕ → Type 0
  BothMet x met = (among (span_at sps x).left met ≡ true) × (among (span_at sps x).right met ≡ true)

  -- step by step
  pub met_none : (p : ℕ) → met_on sps p [] ≡ p ∷ []
  unfolding met_on
  met_none p = refl

  pub met_next : (p x : ℕ) (xs : List ℕ) → met_on sps p (x ∷ xs) ≡ p ∷ met_on sps (far (span_at sps x) p) xs
  unfolding met_on
  met_next p x xs = refl

  -- the node at the start
  pub met_start : (p : ℕ) (r : List ℕ) → among p (met_on sps p r) ≡ true
  unfolding met_on
  met_start p [] = among_first p p [] refl
  met_start p (x ∷ xs) = among_first p p (met_on sps (far (span_at sps x) p) xs) refl

  -- the node at the end
  met_last : (r met : List ℕ) (p t : ℕ) → walks sps met p r t ≡ true → among t (met_on sps p r) ≡ true
  unfolding met_on walks
  met_last [] met p t w = among_first t p [] (sym (eqb-true p t w))
  met_last (x ∷ xs) met p t w =
      let q = far (span_at sps x) p in
      among_more t p (met_on sps q xs) (met_last xs (q ∷ met) q t (step sps met p x xs t w).on)

  -- one span: the present node is one of its ends, and where it leads is the other
  here : (p x : ℕ) (xs : List ℕ) → touches (span_at sps x) p ≡ true → BothMet x (p ∷ met_on sps (far (span_at sps x) p) xs)
  here p x xs = go (eqb (span_at sps x).left p) refl
    where
      a : ℕ
      a = (span_at sps x).left

      b : ℕ
      b = (span_at sps x).right

      go : (u : Bool) → eqb a p ≡ u → (u || eqb b p) ≡ true → (among a (p ∷ met_on sps (cond u b a) xs) ≡ true) × (among b (p ∷ met_on sps (cond u b a) xs) ≡ true)
      go true e h = (among_first a p (met_on sps b xs) (eqb-true a p e), among_more b p (met_on sps b xs) (met_start b xs))
      go false e h = (among_more a p (met_on sps a xs) (met_start a xs), among_first b p (met_on sps a xs) (eqb-true b p h))

  met_both : (x : ℕ) (r met : List ℕ) (p t : ℕ) → walks sps met p r t ≡ true → among x r ≡ true → BothMet x (met_on sps p r)
  unfolding met_on
  met_both x [] met p t w h = absurd (false≢true h)
  met_both x (y ∷ ys) met p t w h =
      let s = step sps met p y ys t w in
      let q = far (span_at sps y) p in
      go (here p y ys s.ends) (met_both x ys (q ∷ met) q t s.on) (eqb x y) refl h
    where
      rest : List ℕ
      rest = met_on sps (far (span_at sps y) p) ys

      go : BothMet y (p ∷ rest) → (among x ys ≡ true → BothMet x rest) → (u : Bool) → eqb x y ≡ u → (u || among x ys) ≡ true → BothMet x (p ∷ rest)
      go now ih true e k = subst (λ (z : ℕ). BothMet z (p ∷ rest)) (sym (eqb-true x y e)) now
      go now ih false e k = let z = ih k in (among_more (span_at sps x).left p rest z.0, among_more (span_at sps x).right p rest z.1)

  -- and no others
  pub record IsEnd (v : ℕ) (r : List ℕ) : Type 0 where
    pub span : ℕ
    pub on_route : among span r ≡ true
    pub ends_there : touches (span_at sps span) v ≡ true

  far_touches : (s : Span) (p : ℕ) → touches s (far s p) ≡ true
  far_touches s p = go (eqb s.left p)
    where
      or_true : (a : Bool) → (a || true) ≡ true
      or_true true = refl
      or_true false = refl

      go : (u : Bool) → touches s (cond u s.right s.left) ≡ true
      go true = rw (eq-eqb s.right s.right refl) (or_true (eqb s.left s.right))
      go false = rw (eq-eqb s.left s.left refl)

  pub met_only : (v p : ℕ) (r : List ℕ) → among v (met_on sps p r) ≡ true → (v ≡ p) ⊎ IsEnd v r
  unfolding met_on
  met_only v p [] h = go (eqb v p) refl h
    where
      go : (u : Bool) → eqb v p ≡ u → (u || false) ≡ true → (v ≡ p) ⊎ IsEnd v []
      go true e k = inl (eqb-true v p e)
      go false e k = absurd (false≢true k)
  met_only v p (x ∷ xs) h = go (eqb v p) refl (met_only v (far (span_at sps x) p) xs) h
    where
      q : ℕ
      q = far (span_at sps x) p

      later : (v ≡ q) ⊎ IsEnd v xs → (v ≡ p) ⊎ IsEnd v (x ∷ xs)
      later (inl e) = inr (record { span = x; on_route = among_first x x xs refl; ends_there = subst (λ (n : ℕ). touches (span_at sps x) n ≡ true) (sym e) (far_touches (span_at sps x) p) })
      later (inr y) = inr (record { span = y.span; on_route = among_more y.span x xs y.on_route; ends_there = y.ends_there })

      go : (u : Bool) → eqb v p ≡ u → (among v (met_on sps q xs) ≡ true → (v ≡ q) ⊎ IsEnd v xs) → (u || among v (met_on sps q xs)) ≡ true → (v ≡ p) ⊎ IsEnd v (x ∷ xs)
      go true e ih k = inl (eqb-true v p e)
      go false e ih k = later (ih k)

  -- THE LAWS, of a route that fits
  module _ (e : Ends) (r : Route) (h : route_fits sps e r ≡ true) where
    walked : walks sps (e.from ∷ []) e.from r.spans e.to ≡ true
    walked = (and_inv {a = below (length sps) r.spans} (and_inv {a = length_fits (length r.spans)} h).1).1

    pub met_end : among e.to (met_on sps e.from r.spans) ≡ true
    met_end = met_last r.spans (e.from ∷ []) e.from e.to walked

    pub met_span : (x : ℕ) → among x r.spans ≡ true → (among (span_at sps x).left (met_on sps e.from r.spans) ≡ true) × (among (span_at sps x).right (met_on sps e.from r.spans) ≡ true)
    met_span x = met_both x r.spans (e.from ∷ []) e.from e.to walked
