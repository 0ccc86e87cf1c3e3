-- The loop over the records of a kind: after some of them, what is left to read gives what the whole gives, told those read, the last first.
-- One law for every kind: a record is refused, or read and put in front of those before it.
use Prim.Native.Nat.{ℕ, suc, ◌+◌, ◌-◌, ◌≤◌, ◌<◌, zero-le}
use mathlib.Core.Path.{◌≡◌, refl, sym, ap, ◌∙◌}
use mathlib.Core.List.{List, [], ◌∷◌, map, map-append, reverse_aux, reverse, reverse-cons}
use native.Mathlib.Omega.{arith}
use lib.ListN.{length, drop, set, length-map, length-reverse}
use Rattle.book.specs.Reader.{Got, got, bad, Reader, and_then, each}
use Rattle.book.specs.Memory.{padded}
use Rattle.book.specs.declared.refusal.Refusal.{Refusal}
use Rattle.book.specs.Inside.{Came, Halted}
use Rattle.book.proofs.Padded.{padded_set}

-- those read before, the last first, put in front of what is read after them
abbrev onto : {A : Type 0} → List A → Got (List A) → Got (List A)
onto before (got l u) = got (reverse_aux before l) u
onto before (bad n p) = bad n p

onto_none : {A : Type 0} (g : Got (List A)) → g ≡ onto [] g
onto_none (got l u) = refl
onto_none (bad n p) = refl

onto_more : {A : Type 0} (a : A) (before : List A) (g : Got (List A)) → onto before (and_then g (λ l u. got (a ∷ l) u)) ≡ onto (a ∷ before) g
onto_more a before (got l u) = refl
onto_more a before (bad n p) = refl

module _ {A : Type 0} (r : List A → Reader A) (s : List ℕ) (start m : ℕ) where
  -- k of m records are read, the first at start, and the next is at `at`
  pub record Turned (k at : ℕ) (before : List A) : Type 0 where
    pub few : k ≤ m
    pub within : at ≤ length s
    pub counted : length before ≡ k
    pub left : each r m [] s (drop start s) ≡ onto before (each r (m - k) before s (drop at s))

  pub turned_start : start ≤ length s → Turned 0 start []
  turned_start l = record {
    few = zero-le;
    within = l;
    counted = refl;
    left = onto_none (each r m [] s (drop start s)) ∙ ap (λ (i : ℕ). onto [] (each r i [] s (drop start s))) (omega arith);
  }

  module _ {k at : ℕ} {before : List A} (now : Turned k at before) (l : k < m) where
    one_left : m - k ≡ suc (m - (k + 1))
    one_left = omega arith

    pub turned_stop : {x : Refusal} → Halted s (r before (drop at s) (drop at s)) x → Halted s (each r m [] s (drop start s)) x
    unfolding each
    turned_stop h = record { is = now.left ∙ rw (one_left, h.is); within = h.within }

    pub turned_next : {a : A} {next : ℕ} → Came s (r before (drop at s) (drop at s)) a next → Turned (k + 1) next (a ∷ before)
    unfolding each
    turned_next {a} {next} h = record {
      few = omega arith;
      within = h.within;
      counted = omega (arith, now.counted);
      left = now.left ∙ rw (one_left, h.is) (onto_more a before (each r (m - (k + 1)) (a ∷ before) s (drop next s)));
    }

  pub turned_done : {k at : ℕ} {before : List A} → Turned k at before → m ≤ k → each r m [] s (drop start s) ≡ got (reverse before) (drop at s)
  unfolding each
  turned_done {k} {at} {before} now h = let e : m - k ≡ 0 = omega (arith, now.few) in now.left ∙ rw e

-- one more in an array of what the records say
pub column_more : {A : Type 0} (n : ℕ) (f : A → ℕ) (k : ℕ) (before : List A) (a : A) (l : List ℕ) → length before ≡ k → k < n
    → l ≡ padded n (map f (reverse before)) → set l k (f a) ≡ padded n (map f (reverse (a ∷ before)))
column_more n f k before a l e h c =
    ap (λ (x : List ℕ). set x k (f a)) c ∙ padded_set n k (map f (reverse before)) (f a) (length-map (reverse before) f ∙ length-reverse before ∙ e) h
    ∙ ap (padded n) (sym (ap (map f) (reverse-cons a before) ∙ map-append f (reverse before) (a ∷ [])))
