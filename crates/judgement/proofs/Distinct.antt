-- The way that is taken uses no lightpath twice: each step leaves for good what is that far from the end, and a lightpath used later has both its ends nearer.
-- So a ring counts each of its lightpaths once.
use Prim.Native.Nat.{ℕ, zero, suc}
use mathlib.Core.Path.{◌≡◌, refl, sym, ap, ◌∙◌, subst}
use mathlib.Core.List.{List, [], ◌∷◌}
use mathlib.Core.Logic.{◌⊎◌, inl, inr, ⊎_elim}
use mathlib.Core.Bool.{Bool, true, false, cond, false≢true}
use Rattle.book.specs.Bits.{bit, has}
use Rattle.book.proofs.Bits.{has_true, true_has}
use Rattle.judgement.specs.Network.{Network}
use Rattle.judgement.specs.Ways.{Runs, In, now, later, Distinct, empty, extra, Way, here, hop, near, way}
use Rattle.judgement.proofs.FirstWays.{near_kept, step_of, step_to, step_is}

-- what is used may be used
pub way_free : (net : Network) (free : ℕ → Bool) {x y : ℕ} {ks : List ℕ} → Way net free x ks y → (k : ℕ) → In k ks → free k ≡ true
way_free net free here k i = elim i [ ]
way_free net free (hop l f r w) k now = f
way_free net free (hop l f r w) k (later i) = way_free net free w k i

in_cons : {k j : ℕ} {ks : List ℕ} → In k (j ∷ ks) → (k ≡ j) ⊎ In k ks
in_cons now = inl refl
in_cons (later i) = inr i

in_none : {k : ℕ} → In k [] → ⊥
in_none i = elim i [ ]

module _ (net : Network) (free : ℕ → Bool) (y : ℕ) where
  -- both ends of lightpath k are at most n away
  abbrev Both : ℕ → ℕ → Type 0
  Both n k = (bit (near net free y n) (net.from k) ≡ 1) × (bit (near net free y n) (net.to k) ≡ 1)

  run_both : (n k x z : ℕ) → Runs net k x z → bit (near net free y n) x ≡ 1 → bit (near net free y n) z ≡ 1 → Both n k
  run_both n k x z (inl r) a b = (ap (bit (near net free y n)) r.0 ∙ a, ap (bit (near net free y n)) r.1 ∙ b)
  run_both n k x z (inr r) a b = (ap (bit (near net free y n)) r.1 ∙ b, ap (bit (near net free y n)) r.0 ∙ a)

  both_run : (n k x z : ℕ) → Runs net k x z → Both n k → bit (near net free y n) x ≡ 1
  both_run n k x z (inl r) b = ap (bit (near net free y n)) (sym r.0) ∙ b.0
  both_run n k x z (inr r) b = ap (bit (near net free y n)) (sym r.0) ∙ b.1

  both_kept : (n k : ℕ) → Both n k → Both (suc n) k
  both_kept n k b = (near_kept net free y n _ b.0, near_kept net free y n _ b.1)

  abbrev step_at : ℕ → ℕ → ℕ
  step_at n x = step_of net free y n x

  abbrev next_at : ℕ → ℕ → ℕ
  next_at n x = step_to net free y n x

  way_within : (n x : ℕ) → bit (near net free y n) x ≡ 1 → (k : ℕ) → In k (way net free y n x) → Both n k
  unfolding way
  way_within zero x h k i = absurd (in_none i)
  way_within (suc n) x h k i = turn (λ g j. way_within n x g k j) (λ g j. way_within n (next_at n x) g k j) (has (near net free y n) x) refl i
    where
      turn : (bit (near net free y n) x ≡ 1 → In k (way net free y n x) → Both n k)
          → (bit (near net free y n) (next_at n x) ≡ 1 → In k (way net free y n (next_at n x)) → Both n k)
          → (b : Bool) → has (near net free y n) x ≡ b → In k (cond b (way net free y n x) (step_at n x ∷ way net free y n (next_at n x))) → Both (suc n) k
      turn stay on true e j = both_kept n k (stay (true_has _ x e) j)
      turn stay on false e j =
          let s = step_is net free y n x e h in
          ⊎_elim
          (λ q. subst (Both (suc n)) (sym q) (run_both (suc n) (step_at n x) x (next_at n x) s.led.runs h (near_kept net free y n _ s.led.into)))
          (λ q. both_kept n k (on s.led.into q))
          (in_cons j)

  -- THE LAW
  pub way_distinct : (n x : ℕ) → bit (near net free y n) x ≡ 1 → Distinct (way net free y n x)
  unfolding way
  way_distinct zero x h = empty
  way_distinct (suc n) x h = turn (way_distinct n x) (way_distinct n (next_at n x)) (has (near net free y n) x) refl
    where
      turn : (bit (near net free y n) x ≡ 1 → Distinct (way net free y n x))
          → (bit (near net free y n) (next_at n x) ≡ 1 → Distinct (way net free y n (next_at n x)))
          → (b : Bool) → has (near net free y n) x ≡ b → Distinct (cond b (way net free y n x) (step_at n x ∷ way net free y n (next_at n x)))
      turn stay on true e = stay (true_has _ x e)
      turn stay on false e =
          let s = step_is net free y n x e h in
          let back : Both n (step_at n x) → bit (near net free y n) x ≡ 1 = both_run n (step_at n x) x (next_at n x) s.led.runs in
          extra (λ i. false≢true (sym e ∙ has_true _ x (back (way_within n (next_at n x) s.led.into (step_at n x) i)))) (on s.led.into)
