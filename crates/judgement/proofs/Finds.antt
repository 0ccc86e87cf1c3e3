-- THE FIRST NUMBER that `find` finds, or that `find_map` finds an answer at, by a function that stays as it is and answers where a test holds.
use Rattle.std.proofs.Common.{◌≡◌, ℕ, ◌+◌, ◌<◌, ◌≤◌, Bool, true, false, cond, refl, ap, subst, ◌∙◌, arith, Option, Some, None, MatchOption, option_map}
use Rattle.std.specs.Prelude.{IfSome, IsSomeAnd}
use Rattle.std.specs.declared.ops.Range.{Range}
use Rattle.std.specs.Iterator.Runs.{SomeRun, AllItemsGive, IsFirstToGive}
use Rattle.std.proofs.iter.Yields.{nat_range_steps}
use Rattle.std.proofs.iter.runs.Sources.{range_runs}
use Prim.Native.Nat.{zero-le}
use denote.Param.Members.{Mut, Called}
use Rattle.judgement.specs.Judgement.{first_of}
use Rattle.judgement.proofs.First.{First, there, nowhere, first, first_only, first_map}

-- what `find` says of the numbers below n
pub found_first : (t : ℕ → Bool) (n : ℕ) (r : Option ℕ)
    → MatchOption r ((k : ℕ) → 0 ≤ k → k < n → t k ≡ false) (λ i. (0 ≤ i) × (i < n) × (t i ≡ true) × ((k : ℕ) → 0 ≤ k → k < i → t k ≡ false))
    → r ≡ first_of t Some None n 0
found_first t n None none = first_only t (λ k. Some k) None n 0 (nowhere (λ y a b. none y a (omega arith)))
found_first t n (Some i) (a, b, h, below) = first_only t (λ k. Some k) None n 0 (there i a (omega arith) h below)

-- what is made of the number that was found, if one was; that number is below n
abbrev made_of : {A : Type 0} → (ℕ → A) → A → Option ℕ → A
made_of f out (Some k) = f k
made_of f out None = out

pub first_made : {A : Type 0} (t : ℕ → Bool) (f : ℕ → A) (out : A) (n : ℕ) {r : Option ℕ} → r ≡ first_of t Some None n 0 → made_of f out r ≡ first_of t f out n 0
first_made t f out n e = ap (made_of f out) e ∙ first_map (made_of f out) t (λ k. Some k) None n 0

pub found_below : (t : ℕ → Bool) (n : ℕ) {k : ℕ} → Some k ≡ first_of t Some None n 0 → k < n
found_below t n {k} e = go (first t (λ x. Some x) None n 0) e
  where
    go : {r : Option ℕ} → First t (λ x. Some x) None n 0 r → Some k ≡ r → k < n
    go (there x a b h below) q = let z : k ≡ x = cc in omega arith
    go (nowhere none) q = cc

-- what `find_map` says of them: an item of a run is that of its place
at_it : (P : ℕ → Type 0) (o : Option ℕ) {m : ℕ} → option_map (λ y. y) o ≡ Some m → IfSome o P → P m
at_it P None e h = cc
at_it P (Some x) {m} e h = let z : x ≡ m = cc in subst P z h

some_it : (P : ℕ → Type 0) (o : Option ℕ) {m : ℕ} → option_map (λ y. y) o ≡ Some m → IsSomeAnd o P → P m
some_it P None e h = cc
some_it P (Some x) {m} e h = let z : x ≡ m = cc in subst P z h

module _ {F B : Type 0} {g : Mut F (ℕ × Unit {0}) (Option B)} (t : ℕ → Bool) (h : ℕ → B) (f : F) (n : ℕ)
    (same : (x : ℕ) (r : Option B) (q : F) → Called g f (x, tt) r q → (q ≡ f) × (r ≡ cond (t x) (Some (h x)) None)) where
  hit : (b : Bool) {x y : B} → Some y ≡ cond b (Some x) None → (b ≡ true) × (y ≡ x)
  hit true e = (refl, cc)
  hit false e = cc

  abbrev gives : Option B → ℕ → Type 0
  gives r x = Called g f (x, tt) r f

  miss : (b : Bool) (x : B) → None ≡ cond b (Some x) None → b ≡ false
  miss true x e = cc
  miss false x e = refl

  pub found_mapped : (r : Option B)
      → SomeRun nat_range_steps (record { start = 0; end = n }) (λ p. MatchOption r ((p.whole ≡ true) × AllItemsGive p g f None)
      (λ y. (i : ℕ) × (i < p.len) × (p.len ≡ i + 1) × IsFirstToGive p g f (Some y) None i))
      → r ≡ first_of t (λ k. Some (h k)) None n 0
  found_mapped None (p, from, both) =
      let c = range_runs p p.seen in
      let z : p.from.start ≡ 0 = ap (λ (s : Range ℕ). s.start) from in
      let len : p.len ≡ n = omega (arith, c.1 both.0, z, ap (λ (s : Range ℕ). s.end) from) in
      let none : (k : ℕ) → 0 ≤ k → k < 0 + n → t k ≡ false =
      λ k a b.
      let is : p.from.start + k ≡ k = omega arith in
      miss (t k) (h k) (same k None f (at_it (gives None) (p.at k) (c.3 k (omega arith) ∙ ap Some is) (both.1 (λ a r q e. (same a.0 r q e).0) k))).1 in
      first_only t (λ k. Some (h k)) None n 0 (nowhere none)
  found_mapped (Some y) (p, from, (i, below, last, first)) =
      let c = range_runs p p.seen in
      let z : p.from.start ≡ 0 = ap (λ (s : Range ℕ). s.start) from in
      let found = first (λ a r q e. (same a.0 r q e).0) in
      let at : (k : ℕ) → k < p.len → option_map (λ y. y) (p.at k) ≡ Some k =
      λ k l. c.3 k l ∙ (let is : p.from.start + k ≡ k = omega arith in ap Some is) in
      let it = hit (t i) (same i (Some y) f (some_it (gives (Some y)) (p.at i) (at i below) found.0)).1 in
      let before : (k : ℕ) → 0 ≤ k → k < i → t k ≡ false =
      λ k a b. miss (t k) (h k) (same k None f (some_it (gives None) (p.at k) (at k (omega arith)) (found.1 k b))).1 in
      ap Some it.1 ∙ first_only t (λ k. Some (h k)) None n 0 (there i zero-le (omega (arith, c.0, z, ap (λ (s : Range ℕ). s.end) from)) it.0 before)
