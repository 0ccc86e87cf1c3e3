-- The lowest number below n that passes a test, as it is looked for: where some number passes it is the least of them, and where it is n none does.
-- The first lightpath that merges, the label of a ring and each step of a way are found so.
use Prim.Native.Nat.{ℕ, zero, suc, ◌<◌, ◌≤◌, zero-le}
use mathlib.Core.Path.{◌≡◌, refl, sym, ap, ◌∙◌}
use mathlib.Core.Bool.{Bool, true, false, cond, false≢true}
use native.Mathlib.Nat.{le_refl}
use native.Mathlib.Omega.{arith}
use native.Mathlib.Decide.{dec_lt, ℕ_discrete}
use lib.Dec.{ltb}
use borrow.Author.Tests.{lt-ltb, le-ltb}
use Rattle.book.proofs.Tests.{and_inv, and_both}
use Rattle.judgement.specs.Judgement.{first_of}
use Rattle.judgement.specs.Contraction.{every}
use Rattle.judgement.specs.Meaning.{Least}
use Rattle.judgement.specs.Ways.{lowest_of}
use Rattle.judgement.proofs.First.{First, there, nowhere, first, first_only}

-- what passes is not lower
pub least_le : {P : ℕ → Type 0} {n x : ℕ} → Least P n x → (j : ℕ) → P j → x ≤ j
least_le {x = x} h j p = elim (dec_lt j x) [ yes q ↦ absurd (h.before j q p) | no q ↦ omega arith ]

module _ (t : ℕ → Bool) (n : ℕ) where
  abbrev pub Passes : ℕ → Type 0
  Passes j = t j ≡ true

  abbrev Answer : ℕ → Type 0
  Answer r = First t (λ k. k) n n 0 r

  passed : (x : ℕ) → x < n → t x ≡ true → ((y : ℕ) → 0 ≤ y → y < x → t y ≡ false) → Least Passes n x
  passed x l h below = record { below = l; holds = h; before = λ y q p. false≢true (sym (below y zero-le q) ∙ p) }

  pub lowest_found : (j : ℕ) → j < n → t j ≡ true → Least Passes n (lowest_of t n)
  lowest_found j l e = go (first t (λ k. k) n n 0)
    where
      go : {r : ℕ} → Answer r → Least Passes n r
      go (there x a b h below) = passed x (omega arith) h below
      go (nowhere none) = absurd (false≢true (sym (none j zero-le (omega arith)) ∙ e))

  pub lowest_passes : lowest_of t n < n → Least Passes n (lowest_of t n)
  lowest_passes = go (first t (λ k. k) n n 0)
    where
      go : {r : ℕ} → Answer r → r < n → Least Passes n r
      go (there x a b h below) l = passed x l h below
      go (nowhere none) l = absurd (omega arith)

  pub lowest_none : (lowest_of t n < n → ⊥) → (j : ℕ) → j < n → t j ≡ false
  lowest_none = go (first t (λ k. k) n n 0)
    where
      go : {r : ℕ} → Answer r → (r < n → ⊥) → (j : ℕ) → j < n → t j ≡ false
      go (there x a b h below) ne = absurd (ne (omega arith))
      go (nowhere none) ne = λ j l. none j zero-le (omega arith)

-- it is not above any that passes, be that below n or not
pub lowest_le : (t : ℕ → Bool) (n q : ℕ) → t q ≡ true → lowest_of t n ≤ q
lowest_le t n q e = go (first t (λ k. k) n n 0)
  where
    go : {v : ℕ} → First t (λ k. k) n n 0 v → v ≤ q
    go (there x a b h below) = elim (dec_lt q x) [ yes l ↦ absurd (false≢true (sym (below q zero-le l) ∙ e)) | no l ↦ omega arith ]
    go (nowhere none) = elim (dec_lt q n) [ yes l ↦ absurd (false≢true (sym (none q zero-le (omega arith)) ∙ e)) | no l ↦ omega arith ]

-- the answer at the lowest that passes, or else `out`
pub first_lowest : {A : Type 0} (t : ℕ → Bool) (f : ℕ → A) (out : A) (n : ℕ) → first_of t f out n 0 ≡ cond (ltb (lowest_of t n) n) (f (lowest_of t n)) out
first_lowest {A} t f out n = go (first t (λ k. k) n n 0)
  where
    go : {v : ℕ} → First t (λ k. k) n n 0 v → first_of t f out n 0 ≡ cond (ltb v n) (f v) out
    go (there x a b h below) = sym (first_only t f out n 0 (there x a b h below)) ∙ sym (ap (λ (q : Bool). cond q (f x) out) (lt-ltb x n (omega arith)))
    go (nowhere none) = sym (first_only t f out n 0 (nowhere none)) ∙ sym (ap (λ (q : Bool). cond q (f n) out) (le-ltb n n (le_refl n)))

-- every number below n passes exactly if each does
pub every_true : (t : ℕ → Bool) (n : ℕ) → ((x : ℕ) → x < n → t x ≡ true) → every t n ≡ true
unfolding every
every_true t zero h = refl
every_true t (suc n) h = and_both (h n (omega arith)) (every_true t n (λ x l. h x (omega arith)))

pub every_at : (t : ℕ → Bool) (n : ℕ) → every t n ≡ true → (i : ℕ) → i < n → t i ≡ true
unfolding every
every_at t zero e i l = absurd (omega arith)
every_at t (suc n) e i l = let b = and_inv {a = t n} e in go b.0 (λ q. every_at t n b.1 i q) (ℕ_discrete i n)
  where
    go : t n ≡ true → (i < n → t i ≡ true) → Dec (i ≡ n) → t i ≡ true
    go a ih (yes y) = ap t y ∙ a
    go a ih (no z) = ih (omega arith)
