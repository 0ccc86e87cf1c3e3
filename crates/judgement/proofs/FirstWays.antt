-- THE WAY that is taken is a way, and comes before every other: what is at most n lightpaths away is found round by round, so that no way from what is not
-- yet found is short, and each step goes by the lowest-numbered lightpath that leads nearer. All of it is over any network and any lightpaths that may be used.
use Prim.Native.Nat.{ℕ, zero, suc, ◌<◌, ◌≤◌}
use mathlib.Core.Path.{◌≡◌, refl, sym, ap, ◌∙◌, subst}
use mathlib.Core.List.{List, [], ◌∷◌}
use mathlib.Core.Logic.{◌⊎◌, inl, inr, ⊎_elim}
use mathlib.Core.Bool.{Bool, true, false, cond, ◌&&◌, ◌||◌, false≢true}
use native.Mathlib.Omega.{arith}
use native.Mathlib.Decide.{ℕ_discrete, dec_lt}
use lib.Dec.{eqb}
use lib.ListN.{length}
use borrow.Author.Tests.{eqb-true, eqb-false, eq-eqb}
use Rattle.book.specs.Bits.{bit, has, put}
use Rattle.book.proofs.Bits.{has_true, true_has, bit_one, bit_other, put_same, put_keeps, put_inv}
use Rattle.book.proofs.Tests.{and_inv, and_both}
use Rattle.judgement.specs.Network.{Network}
use Rattle.judgement.specs.Ways.{Runs, lowest_of, Lex, none, less, same, Before, Way, here, hop, widen, near, leads, far, way}
use Rattle.judgement.proofs.Tests.{or_l, or_r, or_inv}
use Rattle.judgement.proofs.Lowest.{lowest_found, least_le}

module _ (net : Network) (free : ℕ → Bool) where
  -- the lightpath is used by a round: it may be, and the set has an end of it
  abbrev used : ℕ → ℕ → Bool
  used old n = free n && (has old (net.from n) || has old (net.to n))

  -- the set of a round before the last of its lightpaths, and both ends of that put in
  abbrev both_in : ℕ → ℕ → ℕ
  both_in r n = put (put r (net.from n)) (net.to n)

  -- one lightpath more
  widen_kept : (old n q : ℕ) → bit old q ≡ 1 → bit (widen net free old n) q ≡ 1
  unfolding widen
  widen_kept old zero q h = h
  widen_kept old (suc n) q h = turn (used old n) (widen_kept old n q h)
    where
      turn : (b : Bool) → bit (widen net free old n) q ≡ 1 → bit (cond b (both_in (widen net free old n) n) (widen net free old n)) q ≡ 1
      turn true g = put_keeps _ _ q (put_keeps _ _ q g)
      turn false g = g

  -- both ends of lightpath k are in a set
  abbrev Both : ℕ → ℕ → Type 0
  Both s k = (bit s (net.from k) ≡ 1) × (bit s (net.to k) ≡ 1)

  widen_in : (old n k : ℕ) → k < n → free k ≡ true → (bit old (net.from k) ≡ 1) ⊎ (bit old (net.to k) ≡ 1) → Both (widen net free old n) k
  unfolding widen
  widen_in old zero k l f h = absurd (omega arith)
  widen_in old (suc n) k l f h = turn (λ q. widen_in old n k q f h) (ℕ_discrete k n)
    where
      keep : (q : ℕ) → bit (widen net free old n) q ≡ 1 → (b : Bool) → bit (cond b (both_in (widen net free old n) n) (widen net free old n)) q ≡ 1
      keep q g true = put_keeps _ _ q (put_keeps _ _ q g)
      keep q g false = g

      test : k ≡ n → used old n ≡ true
      test y =
          subst (λ (i : ℕ). used old i ≡ true) y
          (and_both f (⊎_elim (λ a. or_l (has old (net.to k)) (has_true old _ a)) (λ b. or_r (has old (net.from k)) (has_true old _ b)) h))

      turn : (k < n → Both (widen net free old n) k) → Dec (k ≡ n) → Both (cond (used old n) (both_in (widen net free old n) n) (widen net free old n)) k
      turn ih (yes y) =
          let r = put (widen net free old n) (net.from n) in
          rw (test y, y) (put_keeps r (net.to n) (net.from n) (put_same (widen net free old n) (net.from n)), put_same r (net.to n))
      turn ih (no z) = let g = ih (omega arith) in (keep (net.from k) g.0 (used old n), keep (net.to k) g.1 (used old n))

  -- what was there, or an end of a lightpath whose other end was there
  abbrev Next : ℕ → ℕ → ℕ → Type 0
  Next old n q = (bit old q ≡ 1) ⊎ ((k : ℕ) × (k < n) × (free k ≡ true) × (z : ℕ) × Runs net k q z × (bit old z ≡ 1))

  widen_inv : (old n q : ℕ) → bit (widen net free old n) q ≡ 1 → Next old n q
  unfolding widen
  widen_inv old zero q h = inl h
  widen_inv old (suc n) q h = turn (λ g. widen_inv old n q g) (used old n) refl h
    where
      later : Next old n q → Next old (suc n) q
      later (inl g) = inl g
      later (inr w) = inr (w.0, omega (arith, w.1), w.2, w.3, w.4, w.5)

      at_from : free n ≡ true → (has old (net.from n) ≡ true) ⊎ (has old (net.to n) ≡ true) → q ≡ net.from n → Next old (suc n) q
      at_from f (inl t) y = inl (subst (λ (i : ℕ). bit old i ≡ 1) (sym y) (true_has old _ t))
      at_from f (inr t) y = inr (n, omega arith, f, net.to n, inl (sym y, refl), true_has old _ t)

      at_to : free n ≡ true → (has old (net.from n) ≡ true) ⊎ (has old (net.to n) ≡ true) → q ≡ net.to n → Next old (suc n) q
      at_to f (inl t) y = inr (n, omega arith, f, net.from n, inr (sym y, refl), true_has old _ t)
      at_to f (inr t) y = inl (subst (λ (i : ℕ). bit old i ≡ 1) (sym y) (true_has old _ t))

      turn : (bit (widen net free old n) q ≡ 1 → Next old n q) → (c : Bool) → used old n ≡ c
          → bit (cond c (both_in (widen net free old n) n) (widen net free old n)) q ≡ 1 → Next old (suc n) q
      turn ih true e g =
          let f = and_inv {a = free n} e in
          let t = or_inv (has old (net.from n)) (has old (net.to n)) f.1 in
          ⊎_elim (λ u. ⊎_elim (λ v. later (ih v)) (λ y. at_from f.0 t y) (put_inv _ (net.from n) q u)) (λ y. at_to f.0 t y) (put_inv _ (net.to n) q g)
      turn ih false e g = later (ih g)

  -- what is near stays near, and what has a way of at most n lightpaths is near
  pub near_kept : (y n q : ℕ) → bit (near net free y n) q ≡ 1 → bit (near net free y (suc n)) q ≡ 1
  unfolding near
  near_kept y n q h = widen_kept (near net free y n) net.count q h

  pub near_start : (y n : ℕ) → bit (near net free y n) y ≡ 1
  unfolding near
  near_start y zero = bit_one y
  near_start y (suc n) = widen_kept (near net free y n) net.count y (near_start y n)

  pub near_step : (y n x z k : ℕ) → k < net.count → free k ≡ true → Runs net k x z → bit (near net free y n) z ≡ 1 → bit (near net free y (suc n)) x ≡ 1
  unfolding near
  near_step y n x z k l f r h = go r
    where
      old : ℕ
      old = near net free y n

      at : (i : ℕ) → i ≡ z → bit (near net free y n) i ≡ 1
      at i e = subst (λ (i : ℕ). bit (near net free y n) i ≡ 1) (sym e) h

      go : Runs net k x z → bit (widen net free (near net free y n) net.count) x ≡ 1
      go (inl r) = subst (λ (i : ℕ). bit (widen net free old net.count) i ≡ 1) r.0 (widen_in old net.count k l f (inr (at (net.to k) r.1))).0
      go (inr r) = subst (λ (i : ℕ). bit (widen net free old net.count) i ≡ 1) r.0 (widen_in old net.count k l f (inl (at (net.from k) r.1))).1

  near_in : {x y : ℕ} {ks : List ℕ} → Way net free x ks y → (n : ℕ) → length ks ≤ n → bit (near net free y n) x ≡ 1
  near_in here n q = near_start _ n
  near_in (hop l f r w) zero q = absurd (omega arith)
  near_in (hop {x = x} {z = z} {y = y} {k = k} l f r w) (suc n) q = near_step y n x z k l f r (near_in w n (omega arith))

  -- the test of a step
  leads_in : (x s k z : ℕ) → free k ≡ true → Runs net k x z → bit s z ≡ 1 → leads net free x s k ≡ true
  unfolding leads
  leads_in x s k z f (inl r) h =
      and_both f (or_l (eqb (net.to k) x && has s (net.from k)) (and_both (eq-eqb _ _ r.0) (has_true s _ (subst (λ (i : ℕ). bit s i ≡ 1) (sym r.1) h))))
  leads_in x s k z f (inr r) h =
      and_both f (or_r (eqb (net.from k) x && has s (net.to k)) (and_both (eq-eqb _ _ r.0) (has_true s _ (subst (λ (i : ℕ). bit s i ≡ 1) (sym r.1) h))))

  pub record Led (x s k : ℕ) : Type 0 where
    pub may : free k ≡ true
    pub runs : Runs net k x (far net free x k)
    pub into : bit s (far net free x k) ≡ 1

  leads_inv : (x s k : ℕ) → has s x ≡ false → leads net free x s k ≡ true → Led x s k
  unfolding leads far
  leads_inv x s k e h = let f = and_inv {a = free k} h in turn f.0 (eqb (net.from k) x) refl (or_inv _ _ f.1)
    where
      turn : free k ≡ true → (b : Bool) → eqb (net.from k) x ≡ b
          → ((eqb (net.from k) x && has s (net.to k)) ≡ true) ⊎ ((eqb (net.to k) x && has s (net.from k)) ≡ true) → Led x s k
      turn f true a (inl g) =
          let h = and_inv {a = eqb (net.from k) x} {b = has s (net.to k)} g in
          record { may = f; runs = rw a (inl (eqb-true _ _ a, refl)); into = rw a (true_has s _ h.1) }
      turn f true a (inr g) = absurd (false≢true (sym e ∙ ap (has s) (sym (eqb-true _ _ a)) ∙ (and_inv {a = eqb (net.to k) x} {b = has s (net.from k)} g).1))
      turn f false a (inl g) = absurd (false≢true (sym a ∙ (and_inv {a = eqb (net.from k) x} {b = has s (net.to k)} g).0))
      turn f false a (inr g) =
          let h = and_inv {a = eqb (net.to k) x} {b = has s (net.from k)} g in
          record { may = f; runs = rw a (inr (eqb-true _ _ h.0, refl)); into = rw a (true_has s _ h.1) }

  far_is : (x k z : ℕ) → Runs net k x z → far net free x k ≡ z
  unfolding far
  far_is x k z r = turn (eqb (net.from k) x) refl r
    where
      turn : (b : Bool) → eqb (net.from k) x ≡ b → Runs net k x z → cond b (net.to k) (net.from k) ≡ z
      turn true e (inl r) = r.1
      turn true e (inr r) = r.0 ∙ sym (eqb-true _ _ e) ∙ r.1
      turn false e (inl r) = absurd (eqb-false _ _ e r.0)
      turn false e (inr r) = r.1

  -- the step that is taken from x, where x is one lightpath further than n; and the way behind it
  pub record Step (y n x k : ℕ) : Type 0 where
    pub below : k < net.count
    pub led : Led x (near net free y n) k
    pub least : (j z : ℕ) → free j ≡ true → Runs net j x z → bit (near net free y n) z ≡ 1 → k ≤ j

  abbrev pub step_of : ℕ → ℕ → ℕ → ℕ
  step_of y n x = lowest_of (leads net free x (near net free y n)) net.count

  abbrev pub step_to : ℕ → ℕ → ℕ → ℕ
  step_to y n x = far net free x (lowest_of (leads net free x (near net free y n)) net.count)

  pub step_is : (y n x : ℕ) → has (near net free y n) x ≡ false → bit (near net free y (suc n)) x ≡ 1 → Step y n x (step_of y n x)
  unfolding near
  step_is y n x e h = turn (widen_inv (near net free y n) net.count x h)
    where
      turn : Next (near net free y n) net.count x → Step y n x (step_of y n x)
      turn (inl g) = absurd (false≢true (sym e ∙ has_true (near net free y n) x g))
      turn (inr w) =
          let led : leads net free x (near net free y n) w.0 ≡ true = leads_in x (near net free y n) w.0 w.3 w.2 w.4 w.5 in
          let f = lowest_found (leads net free x (near net free y n)) net.count w.0 w.1 led in
          record {
            below = f.below;
            led = leads_inv x (near net free y n) (step_of y n x) e f.holds;
            least = λ j z a r b. least_le f j (leads_in x (near net free y n) j z a r b);
          }

  -- the way by one round more
  pub way_stay : (y n x : ℕ) → has (near net free y n) x ≡ true → way net free y (suc n) x ≡ way net free y n x
  unfolding way
  way_stay y n x h = ap (λ (b : Bool). cond b (way net free y n x) (step_of y n x ∷ way net free y n (step_to y n x))) h

  pub way_step : (y n x : ℕ) → has (near net free y n) x ≡ false → way net free y (suc n) x ≡ step_of y n x ∷ way net free y n (step_to y n x)
  unfolding way
  way_step y n x h = ap (λ (b : Bool). cond b (way net free y n x) (step_of y n x ∷ way net free y n (step_to y n x))) h

  -- the way that is taken is a way of at most n lightpaths
  pub record IsWay (x y n : ℕ) (ks : List ℕ) : Type 0 where
    pub runs : Way net free x ks y
    pub short : length ks ≤ n

  pub way_is : (y n x : ℕ) → bit (near net free y n) x ≡ 1 → IsWay x y n (way net free y n x)
  unfolding way near
  way_is y zero x h = record {
    runs = elim (ℕ_discrete x y) [ yes e ↦ subst (λ (i : ℕ). Way net free i [] y) (sym e) here | no z ↦ absurd (omega (arith, h, bit_other y x z)) ];
    short = omega arith;
  }
  way_is y (suc n) x h = turn (way_is y n x) (way_is y n (step_to y n x)) (has (near net free y n) x) refl
    where
      turn : (bit (near net free y n) x ≡ 1 → IsWay x y n (way net free y n x))
          → (bit (near net free y n) (step_to y n x) ≡ 1 → IsWay (step_to y n x) y n (way net free y n (step_to y n x)))
          → (b : Bool) → has (near net free y n) x ≡ b → IsWay x y (suc n) (cond b (way net free y n x) (step_of y n x ∷ way net free y n (step_to y n x)))
      turn stay on true e = let w = stay (true_has _ x e) in record { runs = w.runs; short = omega (arith, w.short) }
      turn stay on false e =
          let s = step_is y n x e h in
          let w = on s.led.into in
          record { runs = hop s.below s.led.may s.led.runs w.runs; short = omega (arith, w.short) }

  -- no way from what is not near is short
  not_near : (y n x : ℕ) → has (near net free y n) x ≡ false → {js : List ℕ} → Way net free x js y → n < length js
  not_near y n x e {js} w =
      elim (dec_lt n (length js)) [ yes q ↦ q | no z ↦ absurd (false≢true (sym e ∙ has_true (near net free y n) x (near_in w n (omega arith)))) ]

  first_step : (y n x : ℕ) → has (near net free y n) x ≡ false → bit (near net free y (suc n)) x ≡ 1
      → ((js : List ℕ) → Way net free (step_to y n x) js y → Before (way net free y n (step_to y n x)) js)
      → (js : List ℕ) → Way net free x js y → Before (step_of y n x ∷ way net free y n (step_to y n x)) js
  first_step y n x e h ih js here = absurd (false≢true (sym e ∙ has_true (near net free y n) y (near_start y n)))
  first_step y n x e h ih js (hop {z = z} {k = j} {ks = ks} l f r w) = turn (dec_lt n (length ks))
    where
      s : Step y n x (step_of y n x)
      s = step_is y n x e h

      rest : IsWay (step_to y n x) y n (way net free y n (step_to y n x))
      rest = way_is y n (step_to y n x) s.led.into

      long : n < suc (length ks)
      long = not_near y n x e (hop l f r w)

      mine : n < suc (length (way net free y n (step_to y n x)))
      mine = not_near y n x e (hop s.below s.led.may s.led.runs rest.runs)

      tie : length ks ≤ n → step_of y n x ≡ j → Before (way net free y n (step_to y n x)) ks → Before (step_of y n x ∷ way net free y n (step_to y n x)) (j ∷ ks)
      tie q eq (inl b) = absurd (omega (arith, mine, b))
      tie q eq (inr b) = inr (omega (arith, b.0), subst (λ (i : ℕ). Lex (step_of y n x ∷ way net free y n (step_to y n x)) (i ∷ ks)) eq (same b.1))

      turn : Dec (n < length ks) → Before (step_of y n x ∷ way net free y n (step_to y n x)) (j ∷ ks)
      turn (yes q) = inl (omega (arith, rest.short))
      turn (no q) = pick (ℕ_discrete (step_of y n x) j)
        where
          pick : Dec (step_of y n x ≡ j) → Before (step_of y n x ∷ way net free y n (step_to y n x)) (j ∷ ks)
          pick (yes eq) = tie (omega arith) eq (ih ks (subst (λ (i : ℕ). Way net free i ks y) (sym (ap (far net free x) eq ∙ far_is x j z r)) w))
          pick (no ne) =
              let lt : step_of y n x < j = omega (arith, s.least j z f r (near_in w n (omega arith))) in
              inr (omega (arith, long, mine, rest.short), less lt)

  -- THE LAW: and it comes before every other
  pub way_before : (y n x : ℕ) → bit (near net free y n) x ≡ 1 → (js : List ℕ) → Way net free x js y → Before (way net free y n x) js
  unfolding way near
  way_before y zero x h [] w = inr (refl, none)
  way_before y zero x h (j ∷ js) w = inl (omega arith)
  way_before y (suc n) x h js w =
      turn (λ g. way_before y n x g js w) (λ g is v. way_before y n (step_to y n x) g is v) (has (near net free y n) x) refl
    where
      turn : (bit (near net free y n) x ≡ 1 → Before (way net free y n x) js)
          → (bit (near net free y n) (step_to y n x) ≡ 1 → (is : List ℕ) → Way net free (step_to y n x) is y → Before (way net free y n (step_to y n x)) is)
          → (b : Bool) → has (near net free y n) x ≡ b → Before (cond b (way net free y n x) (step_of y n x ∷ way net free y n (step_to y n x))) js
      turn stay on true e = stay (true_has _ x e)
      turn stay on false e = first_step y n x e h (on (step_is y n x e h).led.into) js w
