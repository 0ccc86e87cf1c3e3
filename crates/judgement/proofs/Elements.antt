-- TABLES: an array that is mapped, one element after the other. A function that stays as it is takes each of them, and makes the element at its place.
use Rattle.std.proofs.Common.{◌≡◌, ℕ, suc, zero, ◌+◌, ◌<◌, ◌≤◌, List, [], ◌∷◌, sym, ap, subst, ◌∙◌, arith, get_or}
use Rattle.std.specs.Array.{list_steps, MapsFrom, IsMapOf}
use Rattle.std.specs.Iterator.{AlwaysYields, CallableAtEachTurn}
use Rattle.std.proofs.lemmas.Iterator.Adapters.{serves_from_places}
use Rattle.std.proofs.lemmas.Grind.{get_or_default_zero}
use Rattle.std.proofs.Math.ListN.{get_or-eq_default}
use denote.Param.Members.{Mut, Called}
use native.Mathlib.Decide.{ℕ_discrete, dec_lt}
use Rattle.judgement.specs.Merge.{Table}

each_in_turn : {A : Type 0} (xs : List A) → AlwaysYields (list_steps {A = A}) (λ x. x) xs xs
each_in_turn [] = λ x j e. cc
each_in_turn {A} (y ∷ ys) = (
  λ j e. cc,
  λ x j e.
      let a : x ≡ y = cc in
      let b : ys ≡ j = cc in
      (a, subst (λ (s : List A). AlwaysYields (list_steps {A = A}) (λ x. x) s ys) b (each_in_turn ys)),
)

-- it may be called with each element
pub taken : {F : Type 0} {R : F → ℕ → F → Type 0} {Q : F → ℕ → Type 0} {f : F} (xs : List ℕ)
    → ((x : ℕ) (q : F) → R f x q → q ≡ f) → ((k : ℕ) → Q f (get_or xs k 0)) → CallableAtEachTurn (list_steps {A = ℕ}) R Q xs f
taken {Q = Q} {f = f} xs stays takes =
    serves_from_places (record { runs = each_in_turn xs }) stays
    (λ x k l e. subst (λ (y : ℕ). Q f y) (sym (e ∙ get_or_default_zero xs k x l)) (takes k))

module _ {F : Type 0} (g : Mut F (ℕ × Unit {0}) ℕ) (h : ℕ → ℕ) (f : F) (same : (x y : ℕ) (q : F) → Called g f (x, tt) y q → (q ≡ f) × (y ≡ h x)) where
  made_at : (xs ys : List ℕ) (i n : ℕ) → MapsFrom g f xs ys i n → (k : ℕ) → i ≤ k → k < i + n → get_or ys k 0 ≡ h (get_or xs k 0)
  made_at xs ys i zero m k a b = absurd (omega arith)
  made_at xs ys i (suc n) (q, x, y, at, of, made, rest) k a b =
      let now : (q ≡ f) × (y ≡ h x) = same x y q made in
      go now (λ l. made_at xs ys (i + 1) n (subst (λ (p : F). MapsFrom g p xs ys (i + 1) n) now.0 rest) k l (omega arith)) (ℕ_discrete k i)
    where
      go : (q ≡ f) × (y ≡ h x) → (i + 1 ≤ k → get_or ys k 0 ≡ h (get_or xs k 0)) → Dec (k ≡ i) → get_or ys k 0 ≡ h (get_or xs k 0)
      go now on (yes e) = rw e (of.1 0 ∙ now.1 ∙ ap h (sym (at.1 0)))
      go now on (no ne) = on (omega arith)

  -- THE LAW
  pub mapped : {xs ys : List ℕ} {n : ℕ} → IsMapOf g f xs ys n → Table n (λ i. h (get_or xs i 0)) n ys
  mapped {xs} {ys} {n} m = record { long = m.long; each = λ i l. made_at xs ys 0 n m.each i (omega arith) (omega arith) }

-- no number of a table is too great, nor is one that is not in it
pub table_low : {n : ℕ} {f : ℕ → ℕ} {r : List ℕ} → Table n f n r → ((i : ℕ) → i < n → f i < 64) → (i : ℕ) → get_or r i 0 < 64
table_low {n} {f} {r} t low i = elim (dec_lt i n) [
  | yes l ↦ omega (arith, t.each i l, low i l)
  | no z ↦ omega (arith, get_or-eq_default r 0 {n = i} (omega (arith, t.long)))
]
