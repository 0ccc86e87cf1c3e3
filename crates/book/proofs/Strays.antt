-- The span at fault, as the reader finds it and in the words of the table: a route with a number that is too high, or whose walk fails, is cut
-- before just one span, which the row names. So the bytes from that span on are what the reader points at.
use Prim.Native.Nat.{ℕ, ◌≤◌}
use mathlib.Core.Path.{◌≡◌, refl, sym, ap, ◌∙◌}
use mathlib.Core.List.{List, [], ◌∷◌, ◌++◌, append-nil}
use mathlib.Core.Bool.{Bool, true, false, not, ◌&&◌, false≢true}
use native.Mathlib.Omega.{arith}
use lib.ListN.{length, length-append}
use lib.Dec.{ltb}
use borrow.Author.Tests.{le-ltb, ltb-false, ne_eqb, eqb-false}
use Rattle.book.specs.Book.{Span, among, below, span_at, touches, far, walks}
use Rattle.book.specs.Format.{from_high, from_stray}
use Rattle.book.specs.Refusal.{Leads, no_span, span_on, Stray, untouched, met_again, elsewhere}
use Rattle.book.proofs.Tests.{and_inv, and_both}

-- the first number that is not below n
pub record HighSplit (n : ℕ) (r : List ℕ) : Type 0 where
  pub before : List ℕ
  pub span : ℕ
  pub after : List ℕ
  pub is : r ≡ before ++ span ∷ after
  pub low : below n before ≡ true
  pub high : n ≤ span
  pub from : from_high n r ≡ span ∷ after

pub high_split : (n : ℕ) (r : List ℕ) → below n r ≡ false → HighSplit n r
unfolding below from_high
high_split n [] h = absurd (false≢true (sym h))
high_split n (x ∷ xs) h = go (ltb x n) refl h (λ f. high_split n xs f)
  where
    go : (t : Bool) → ltb x n ≡ t → (t && below n xs) ≡ false → (below n xs ≡ false → HighSplit n xs) → HighSplit n (x ∷ xs)
    go true e f rest =
        let s = rest f in
        record { before = x ∷ s.before; span = s.span; after = s.after; is = ap (λ (l : List ℕ). x ∷ l) s.is; low = and_both e s.low; high = s.high; from = rw e s.from }
    go false e f rest = record { before = []; span = x; after = xs; is = refl; low = refl; high = ltb-false x n e; from = rw e }

module _ (n x : ℕ) (after : List ℕ) (h : n ≤ x) where
  pub high_fails : (before : List ℕ) → below n (before ++ x ∷ after) ≡ false
  unfolding below
  high_fails [] = rw (le-ltb x n h)
  high_fails (y ∷ ys) = rw (high_fails ys) (go (ltb y n))
    where
      go : (t : Bool) → (t && false) ≡ false
      go true = refl
      go false = refl

  pub high_from : (before : List ℕ) → below n before ≡ true → from_high n (before ++ x ∷ after) ≡ x ∷ after
  unfolding below from_high
  high_from [] l = rw (le-ltb x n h)
  high_from (y ∷ ys) l = let z = and_inv {a = ltb y n} l in rw z.0 (high_from ys z.1)

-- a span that a walk passes
module _ (sps : List Span) where
  abbrev pub goes : List ℕ → ℕ → ℕ → Bool
  goes met p x = touches (span_at sps x) p && not (among (far (span_at sps x) p) met)

  module _ (met : List ℕ) (p x : ℕ) (g : goes met p x ≡ true) where
    pub walk_passes : (xs : List ℕ) (t : ℕ) → walks sps met p (x ∷ xs) t ≡ walks sps (far (span_at sps x) p ∷ met) (far (span_at sps x) p) xs t
    unfolding walks
    walk_passes xs t = rw g

    pub from_passes : (xs : List ℕ) → 1 ≤ length xs → from_stray sps met p (x ∷ xs) ≡ from_stray sps (far (span_at sps x) p ∷ met) (far (span_at sps x) p) xs
    unfolding from_stray
    from_passes [] l = absurd (omega arith)
    from_passes (y ∷ ys) l = rw g

  -- and one that it does not
  module _ (met : List ℕ) (p x : ℕ) (g : goes met p x ≡ false) where
    pub walk_stops : (xs : List ℕ) (t : ℕ) → walks sps met p (x ∷ xs) t ≡ false
    unfolding walks
    walk_stops xs t = rw g

    pub from_stops : (xs : List ℕ) → from_stray sps met p (x ∷ xs) ≡ x ∷ xs
    unfolding from_stray
    from_stops [] = refl
    from_stops (y ∷ ys) = rw g

  -- the span at which a walk fails
  pub record StraySplit (met : List ℕ) (p t : ℕ) (r : List ℕ) : Type 0 where
    pub before : List ℕ
    pub span : ℕ
    pub after : List ℕ
    pub is : r ≡ before ++ span ∷ after
    pub stray : Stray sps met p t before span after
    pub from : from_stray sps met p r ≡ span ∷ after

  -- a span more in front
  stray_after : (met : List ℕ) (p t x : ℕ) {before after : List ℕ} {y : ℕ} → touches (span_at sps x) p ≡ true → among (far (span_at sps x) p) met ≡ false
      → Stray sps (far (span_at sps x) p ∷ met) (far (span_at sps x) p) t before y after → Stray sps met p t (x ∷ before) y after
  stray_after met p t x a b (untouched l h) = untouched (span_on a b l) h
  stray_after met p t x a b (met_again l h k) = met_again (span_on a b l) h k
  stray_after met p t x a b (elsewhere l n) = elsewhere (span_on a b l) n

  module _ (met : List ℕ) (p t x : ℕ) where
    -- x is at fault, or it is passed and what comes after it is
    cut : (xs : List ℕ) → walks sps met p (x ∷ xs) t ≡ false
        → (touches (span_at sps x) p ≡ true → among (far (span_at sps x) p) met ≡ false → walks sps (far (span_at sps x) p ∷ met) (far (span_at sps x) p) xs t ≡ false → StraySplit met p t (x ∷ xs))
        → StraySplit met p t (x ∷ xs)
    cut xs w rest = go (touches (span_at sps x) p) (among (far (span_at sps x) p) met) refl refl
      where
        go : (u v : Bool) → touches (span_at sps x) p ≡ u → among (far (span_at sps x) p) met ≡ v → StraySplit met p t (x ∷ xs)
        go false v a b = record { before = []; span = x; after = xs; is = refl; stray = untouched no_span a; from = from_stops met p x (rw a) xs }
        go true true a b = record { before = []; span = x; after = xs; is = refl; stray = met_again no_span a b; from = from_stops met p x (rw (a, b)) xs }
        go true false a b = rest a b (sym (walk_passes met p x (rw (a, b)) xs t) ∙ w)

  pub stray_split : (met : List ℕ) (p t x : ℕ) (xs : List ℕ) → walks sps met p (x ∷ xs) t ≡ false → StraySplit met p t (x ∷ xs)
  unfolding walks from_stray
  stray_split met p t x [] w =
      cut met p t x [] w λ a b h.
      record { before = []; span = x; after = []; is = refl; stray = elsewhere (span_on a b no_span) (eqb-false (far (span_at sps x) p) t h); from = refl }
  stray_split met p t x (y ∷ ys) w =
      cut met p t x (y ∷ ys) w λ a b h.
      let s = stray_split (far (span_at sps x) p ∷ met) (far (span_at sps x) p) t y ys h in
      record {
        before = x ∷ s.before;
        span = s.span;
        after = s.after;
        is = ap (λ (l : List ℕ). x ∷ l) s.is;
        stray = stray_after met p t x a b s.stray;
        from = from_passes met p x (rw (a, b)) (y ∷ ys) (omega arith) ∙ s.from;
      }

  -- the walk over spans that lead on, and where it fails after them
  leads_walk : {met seen before : List ℕ} {p q : ℕ} → Leads sps met p before seen q → (rest : List ℕ) (t : ℕ) → walks sps met p (before ++ rest) t ≡ walks sps seen q rest t
  leads_walk no_span rest t = refl
  leads_walk (span_on {met} {xs = xs} {p} {x} a b l) rest t = walk_passes met p x (rw (a, b)) (xs ++ rest) t ∙ leads_walk l rest t

  leads_from : {met seen before : List ℕ} {p q : ℕ} → Leads sps met p before seen q → (rest : List ℕ) → 1 ≤ length rest → from_stray sps met p (before ++ rest) ≡ from_stray sps seen q rest
  leads_from no_span rest n = refl
  leads_from (span_on {met} {xs = xs} {p} {x} a b l) rest n = from_passes met p x (rw (a, b)) (xs ++ rest) (omega (arith, length-append xs rest)) ∙ leads_from l rest n

  last_from : (before : List ℕ) (x : ℕ) {met seen : List ℕ} {p q : ℕ} → Leads sps met p (before ++ x ∷ []) seen q → from_stray sps met p (before ++ x ∷ []) ≡ x ∷ []
  unfolding from_stray
  last_from [] x l = refl
  last_from (y ∷ ys) x (span_on {met} {p = p} a b l) = from_passes met p y (rw (a, b)) (ys ++ x ∷ []) (omega (arith, length-append ys (x ∷ []))) ∙ last_from ys x l

  pub stray_fails : {met before after : List ℕ} {p t x : ℕ} → Stray sps met p t before x after → walks sps met p (before ++ x ∷ after) t ≡ false
  unfolding walks
  stray_fails {t = t} {x} (untouched {seen} {after} {q} l h) = leads_walk l (x ∷ after) t ∙ walk_stops seen q x (rw h) after t
  stray_fails {t = t} {x} (met_again {seen} {after} {q} l h k) = leads_walk l (x ∷ after) t ∙ walk_stops seen q x (rw (h, k)) after t
  stray_fails {met} {before} {p = p} {t} {x} (elsewhere {q = q} l n) =
      ap (λ (r : List ℕ). walks sps met p r t) (sym (append-nil (before ++ x ∷ []))) ∙ leads_walk l [] t ∙ ne_eqb q t n

  pub stray_from : {met before after : List ℕ} {p t x : ℕ} → Stray sps met p t before x after → from_stray sps met p (before ++ x ∷ after) ≡ x ∷ after
  stray_from {x = x} (untouched {seen} {after} {q} l h) = leads_from l (x ∷ after) (omega arith) ∙ from_stops seen q x (rw h) after
  stray_from {x = x} (met_again {seen} {after} {q} l h k) = leads_from l (x ∷ after) (omega arith) ∙ from_stops seen q x (rw (h, k)) after
  stray_from {before = before} {x = x} (elsewhere l n) = last_from before x l
