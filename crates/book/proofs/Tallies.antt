-- The tally of the alternatives so far stands for the list of their lightpaths: since these never fall, the ones of the last stand together,
-- and no later lightpath has any yet. So three numbers are enough for all four grounds of refusal 8.
use Prim.Native.Nat.{ℕ, ◌+◌, ◌≤◌, ◌<◌, zero-le}
use mathlib.Core.Path.{◌≡◌, refl, sym}
use mathlib.Core.List.{List, [], ◌∷◌}
use mathlib.Core.Bool.{Bool, true, false, cond, not, ◌&&◌, ◌||◌}
use native.Mathlib.Decide.{ℕ_discrete, dec_le}
use native.Mathlib.Omega.{arith}
use lib.ListN.{get_or}
use lib.Dec.{eqb, ltb, leb}
use borrow.Author.Tests.{eq-eqb, ne_eqb, lt-leb, ltb-true, leb-true}
use Rattle.book.specs.Book.{among, count, different, most_with_alternatives, follows}
use Rattle.book.specs.Inside.{held_for, TallyOf, follows_in}
use Rattle.book.proofs.Tests.{and_inv}

pub tally_none : TallyOf [] 0 0 0
unfolding count different
tally_none = record { is_last = refl; is_same = λ k l. none k (eqb k 0); is_different = refl }
  where
    none : (k : ℕ) (t : Bool) → ◌≡◌ {A = ℕ} 0 (cond t 0 0)
    none k true = refl
    none k false = refl

pub held_most : (last same k : ℕ) → held_for last same k ≤ same
held_most last same k = go (eqb k last)
  where
    go : (t : Bool) → cond t same 0 ≤ same
    go true = omega arith
    go false = zero-le

pub one_most : (t : Bool) → cond t 1 0 ≤ 1
one_most true = omega arith
one_most false = omega arith

-- a number is in a list exactly if its count is not 0
pub count_among : (x : ℕ) (xs : List ℕ) → among x xs ≡ not (eqb (count x xs) 0)
unfolding count
count_among x [] = refl
count_among x (y ∷ ys) = go (ℕ_discrete x y) (count_among x ys)
  where
    go : Dec (x ≡ y) → among x ys ≡ not (eqb (count x ys) 0) → (eqb x y || among x ys) ≡ not (eqb (cond (eqb y x) 1 0 + count x ys) 0)
    go (yes e) ih = rw (eq-eqb x y e, eq-eqb y x (sym e), ne_eqb (1 + count x ys) 0 (λ z. omega arith))
    go (no n) ih = let z : 0 + count x ys ≡ count x ys = omega arith in rw (ne_eqb x y n, ne_eqb y x (λ e. n (sym e)), z) ih

-- what may stand next is a lightpath, and not below the last
pub follows_low : (last same many lightpaths k : ℕ) → follows_in last same many lightpaths k ≡ true → (k < lightpaths) × (last ≤ k)
follows_low last same many lightpaths k h =
    let a = and_inv {a = ltb k lightpaths && leb last k && (ltb 0 (held_for last same k) || ltb many most_with_alternatives)} h in
    let b = and_inv {a = ltb k lightpaths && leb last k} a.0 in
    let c = and_inv {a = ltb k lightpaths} b.0 in
    (ltb-true k lightpaths c.0, leb-true last k c.1)

module _ (before : List ℕ) (last same many : ℕ) (t : TallyOf before last same many) where
  pub tally_follows : (lightpaths k : ℕ) → follows_in last same many lightpaths k ≡ follows lightpaths before k
  unfolding follows
  tally_follows lightpaths k = go (dec_le last k)
    where
      go : Dec (last ≤ k) → follows_in last same many lightpaths k
          ≡ (ltb k lightpaths && leb (get_or before 0 0) k && (ltb 0 (count k before) || ltb (different before) 8) && ltb (count k before) 7)
      go (yes l) = rw (← t.is_last, t.is_same k l, ← t.is_different)
      go (no n) = rw (← t.is_last, lt-leb last k (omega arith)) (both (ltb k lightpaths) _ _ _ _)
        where
          both : (a b c d e : Bool) → (a && false && b && c) ≡ (a && false && d && e)
          both true b c d e = refl
          both false b c d e = refl

  -- one more alternative, of a lightpath that is not below the last
  module _ (k : ℕ) (l : last ≤ k) where
    later : (j : ℕ) → k ≤ j → cond (eqb k j) 1 0 + count j before ≡ held_for k (held_for last same k + 1) j
    later j m = go (ℕ_discrete j k)
      where
        go : Dec (j ≡ k) → cond (eqb k j) 1 0 + count j before ≡ cond (eqb j k) (held_for last same k + 1) 0
        go (yes e) = rw (eq-eqb k j (sym e), eq-eqb j k e, e) (omega (arith, t.is_same k l))
        go (no n) =
            let z : held_for last same j ≡ 0 = rw (ne_eqb j last (λ e. n (omega arith))) in
            rw (ne_eqb k j (λ e. n (sym e)), ne_eqb j k n) (omega (arith, t.is_same j (omega arith), z))

    pub tally_more : TallyOf (k ∷ before) k (held_for last same k + 1) (many + cond (eqb (held_for last same k) 0) 1 0)
    unfolding count different
    tally_more = record {
      is_last = refl;
      is_same = later;
      is_different = rw (count_among k before, t.is_same k l, ← t.is_different) (new (eqb (held_for last same k) 0));
    }
      where
        new : (b : Bool) → many + cond b 1 0 ≡ cond (not b) 0 1 + many
        new true = omega arith
        new false = omega arith
