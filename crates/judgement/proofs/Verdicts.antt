-- The verdict means what docs/JUDGEMENT.md says of its kind and numbers, and no other verdict does.
-- So a book is acceptable exactly if no span is over and the network survives, in either form.
use Prim.Native.Nat.{ℕ, ◌+◌, ◌<◌, ◌≤◌, zero-le}
use mathlib.Core.Path.{◌≡◌, refl, sym, ap, ◌∙◌, subst}
use mathlib.Core.Logic.Iff
use mathlib.Core.Logic.{◌↔◌}
use mathlib.Core.Bool.{Bool, true, false, not, cond, false≢true}
use native.Mathlib.Omega.{arith}
use lib.ListN.{length}
use lib.Dec.{ltb}
use borrow.Author.Tests.{ltb-true, ltb-false, lt-ltb, le-ltb, not-true, not-false}
use Rattle.book.specs.Book.{RouteBook, well_formed}
use Rattle.judgement.specs.declared.Verdict.{Verdict}
use Rattle.judgement.specs.declared.Verdict.TheVariants.{Over, Split, Cut, Okay}
use Rattle.judgement.specs.Judgement.{load, limit, without, all_up, side, whole, cut_or_okay, split_or, verdict, is_okay, acceptable}
use Rattle.judgement.specs.Cuts.{AllJoined, Survives, CutForm}
use Rattle.judgement.specs.Meaning.{Least, IsOver, NoneOver, IsCut, Given, over, split, cut, okay}
use Rattle.judgement.proofs.Tests.{not_when, when_not_not}
use Rattle.judgement.proofs.First.{First, there, nowhere, first, first_only}
use Rattle.judgement.proofs.Whole.{whole_joined}
use Rattle.judgement.proofs.Cuts.{same_forms}

-- acceptable is OK
pub okay_only : (v : Verdict) → is_okay v ≡ true → v ≡ Okay
okay_only (Over x l w) e = absurd (false≢true e)
okay_only (Split d) e = absurd (false≢true e)
okay_only (Cut x d) e = absurd (false≢true e)
okay_only Okay e = refl

module _ (m : RouteBook) where
  -- the two searches: their tests, and their answers
  abbrev over_test : ℕ → Bool
  over_test x = ltb (limit m x) (load m x)

  abbrev over_at : ℕ → Verdict
  over_at x = Over x (load m x) (limit m x)

  abbrev cut_test : ℕ → Bool
  cut_test x = not (whole m (without m x))

  abbrev cut_at : ℕ → Verdict
  cut_at x = Cut x (side m (without m x))

  over_first : First over_test over_at (split_or m) (length m.spans) 0 (verdict m)
  over_first = first over_test over_at (split_or m) (length m.spans) 0

  over_nowhere : ((x : ℕ) → 0 ≤ x → x < 0 + length m.spans → over_test x ≡ false) → NoneOver m
  over_nowhere h x l = ltb-false (limit m x) (load m x) (h x zero-le (omega arith))

  -- past the first search: where no span is over, the verdict is what comes after OVER; no book is asked to be well formed
  pub none_over : NoneOver m → split_or m ≡ verdict m
  none_over none = first_only over_test over_at (split_or m) (length m.spans) 0 (nowhere (λ x a l. le-ltb (limit m x) (load m x) (none x (omega arith))))

  pub okay_after : acceptable m ≡ true → NoneOver m × (is_okay (split_or m) ≡ true)
  okay_after = go over_first
    where
      go : {v : Verdict} → First over_test over_at (split_or m) (length m.spans) 0 v → is_okay v ≡ true → NoneOver m × (is_okay (split_or m) ≡ true)
      go (there x a b h low) e = absurd (false≢true e)
      go (nowhere h) e = (over_nowhere h, e)

module _ (m : RouteBook) (good : well_formed m ≡ true) where
  joined : {up : ℕ → Bool} → whole m up ≡ true → AllJoined m up
  joined {up} = (whole_joined m good up).0

  not_joined : {up : ℕ → Bool} → whole m up ≡ false → AllJoined m up → ⊥
  not_joined {up} e all = false≢true (sym e ∙ (whole_joined m good up).1 all)

  not_whole : {up : ℕ → Bool} → (AllJoined m up → ⊥) → whole m up ≡ false
  not_whole {up} = not_when (whole m up) joined

  not_not_whole : {up : ℕ → Bool} → ((AllJoined m up → ⊥) → ⊥) → whole m up ≡ true
  not_not_whole {up} = when_not_not (whole m up) (whole_joined m good up).1

  judged_cut : NoneOver m → AllJoined m all_up → Given m (cut_or_okay m)
  judged_cut none all = go (first (cut_test m) (cut_at m) Okay (length m.spans) 0)
    where
      go : {v : Verdict} → First (cut_test m) (cut_at m) Okay (length m.spans) 0 v → Given m v
      go (there x a b h low) = cut x none all (record {
        below = omega arith;
        holds = not_joined (not-true _ h);
        before = λ y l c. c (joined (not-false _ (low y zero-le l)));
      })
      go (nowhere h) = okay none (record { intact = all; each = λ x l. joined (not-false _ (h x zero-le (omega arith))) })

  judged_split : NoneOver m → Given m (split_or m)
  judged_split none = go (whole m all_up) refl
    where
      go : (t : Bool) → whole m all_up ≡ t → Given m (cond t (cut_or_okay m) (Split (side m all_up)))
      go true e = judged_cut none (joined e)
      go false e = split none (not_joined e)

  -- THE LAW: the verdict means what its kind and numbers say
  pub judged : Given m (verdict m)
  judged = go (over_first m)
    where
      go : {v : Verdict} → First (over_test m) (over_at m) (split_or m) (length m.spans) 0 v → Given m v
      go (there x a b h low) = over x (record {
        below = omega arith;
        holds = ltb-true (limit m x) (load m x) h;
        before = λ y l o. omega (arith, o, ltb-false (limit m y) (load m y) (low y zero-le l));
      })
      go (nowhere h) = judged_split (over_nowhere m h)

  all_joined : AllJoined m all_up → cut_or_okay m ≡ split_or m
  all_joined all = ap (λ (t : Bool). cond t (cut_or_okay m) (Split (side m all_up))) (sym ((whole_joined m good all_up).1 all))

  -- and no other verdict means that
  pub judged_only : {v : Verdict} → Given m v → v ≡ verdict m
  judged_only (over x o) =
      first_only (over_test m) (over_at m) (split_or m) (length m.spans) 0
      (there x zero-le (omega (arith, o.below)) (lt-ltb (limit m x) (load m x) o.holds) (λ y a l. le-ltb (limit m y) (load m y) (omega (arith, o.before y l))))
  judged_only (split none ne) = ap (λ (t : Bool). cond t (cut_or_okay m) (Split (side m all_up))) (sym (not_whole ne)) ∙ none_over m none
  judged_only (cut x none all c) =
      first_only (cut_test m) (cut_at m) Okay (length m.spans) 0
      (there x zero-le (omega (arith, c.below)) (ap not (not_whole c.holds)) (λ y a l. ap not (not_not_whole (c.before y l))))
      ∙ all_joined all ∙ none_over m none
  judged_only (okay none s) =
      first_only (cut_test m) (cut_at m) Okay (length m.spans) 0 (nowhere (λ x a l. ap not ((whole_joined m good (without m x)).1 (s.each x (omega arith)))))
      ∙ all_joined s.intact ∙ none_over m none

  pub judged_once : {v v' : Verdict} → Given m v → Given m v' → v ≡ v'
  judged_once j j' = judged_only j ∙ sym (judged_only j')

  -- each kind by itself, with its numbers
  pub over_exact : (x l w : ℕ) → (verdict m ≡ Over x l w) ↔ (Least (IsOver m) (length m.spans) x × (l ≡ load m x) × (w ≡ limit m x))
  over_exact x l w = ((λ e. go (subst (Given m) e judged)), (λ p. sym (judged_only (over x p.0)) ∙ rw (p.1, p.2)))
    where
      go : {x l w : ℕ} → Given m (Over x l w) → Least (IsOver m) (length m.spans) x × (l ≡ load m x) × (w ≡ limit m x)
      go (over x o) = (o, refl, refl)

  pub split_exact : (d : ℕ) → (verdict m ≡ Split d) ↔ (NoneOver m × (AllJoined m all_up → ⊥) × (d ≡ side m all_up))
  split_exact d = ((λ e. go (subst (Given m) e judged)), (λ p. sym (judged_only (split p.0 p.1)) ∙ rw p.2))
    where
      go : {d : ℕ} → Given m (Split d) → NoneOver m × (AllJoined m all_up → ⊥) × (d ≡ side m all_up)
      go (split none ne) = (none, ne, refl)

  pub cut_exact : (x d : ℕ) → (verdict m ≡ Cut x d) ↔ (NoneOver m × AllJoined m all_up × Least (IsCut m) (length m.spans) x × (d ≡ side m (without m x)))
  cut_exact x d = ((λ e. go (subst (Given m) e judged)), (λ p. sym (judged_only (cut x p.0 p.1 p.2)) ∙ rw p.3))
    where
      go : {x d : ℕ} → Given m (Cut x d) → NoneOver m × AllJoined m all_up × Least (IsCut m) (length m.spans) x × (d ≡ side m (without m x))
      go (cut x none all c) = (none, all, c, refl)

  pub okay_exact : (verdict m ≡ Okay) ↔ (NoneOver m × Survives m)
  okay_exact = ((λ e. go (subst (Given m) e judged)), (λ p. sym (judged_only (okay p.0 p.1))))
    where
      go : Given m Okay → NoneOver m × Survives m
      go (okay none s) = (none, s)

  -- DEMAND 2, in both forms
  pub acceptable_joined : (acceptable m ≡ true) ↔ (NoneOver m × Survives m)
  acceptable_joined = ((λ e. okay_exact.0 (okay_only (verdict m) e)), (λ p. ap is_okay (okay_exact.1 p)))

  pub acceptable_cuts : (acceptable m ≡ true) ↔ (NoneOver m × CutForm m)
  acceptable_cuts = Iff.trans acceptable_joined (Iff.and Iff.rfl (same_forms m good))
