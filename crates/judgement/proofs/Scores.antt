-- With the stations joined when all is up, F is nought exactly if no span's loss parts them, for every lost lightpath then has a way round.
-- F counts among the pairs of a lightpath and a span of its route, of which there are at most 96 times 16.
use Prim.Native.Nat.{ℕ, ◌<◌, ◌≤◌}
use mathlib.Core.Path.{◌≡◌, refl, sym, ap, ◌∙◌}
use mathlib.Core.Logic.{◌⊎◌, inl, inr, ◌↔◌}
use mathlib.Core.Bool.{Bool, true, false, not, ◌&&◌, true≢false}
use native.Mathlib.Nat.{le_trans}
use native.Mathlib.Omega.{arith}
use lib.ListN.{length}
use Rattle.book.specs.Book.{RouteBook, well_formed}
use Rattle.book.specs.Bits.{has}
use borrow.Author.Tests.{not-true}
use Rattle.book.proofs.Tests.{and_inv, and_both}
use Rattle.book.proofs.Bounds.{counts, ends_stations, ends_lt}
use Rattle.judgement.specs.Network.{Link, Joined, start, more, side_of}
use Rattle.judgement.specs.Judgement.{rides, one, network, without, all_up, apart, verdict, score_f, score_fc}
use Rattle.judgement.specs.Cuts.{AllJoined}
use Rattle.judgement.specs.declared.Verdict.TheVariants.{Okay}
use Rattle.judgement.proofs.Verdicts.{okay_exact}
use Rattle.judgement.proofs.Whole.{joined_to}
use Rattle.judgement.proofs.Chains.{join_trans, join_sym, join_bind}
use Rattle.judgement.proofs.Sums.{sum_none, none_sum, sum_le}
use Rattle.judgement.proofs.Excess.{loads_most}

module _ (m : RouteBook) (good : well_formed m ≡ true) where
  -- the ends of lightpath k are joined with span x out
  abbrev Round : ℕ → ℕ → Type 0
  Round x k = Joined (network m) (without m x) ((network m).from k) ((network m).to k)

  -- the pairs that F counts are none
  abbrev NoneApart : Type 0
  NoneApart = (x k : ℕ) → x < length m.spans → k < length m.lightpaths → rides m x k ≡ true → Round x k

  -- F's test of it
  abbrev near : ℕ → ℕ → Bool
  near x k = has (side_of (network m) (without m x) 64 ((network m).from k)) ((network m).to k)

  near_round : (x k : ℕ) → k < length m.lightpaths → (near x k ≡ true) ↔ Round x k
  near_round x k l = joined_to m good (without m x) ((network m).from k) (ends_lt m good k l).0 ((network m).to k)

  -- one pair
  pair_none : (x k : ℕ) → k < length m.lightpaths → (rides m x k ≡ true → Round x k) → one (apart m x k) ≡ 0
  pair_none x k l f = go (rides m x k) refl
    where
      go : (t : Bool) → rides m x k ≡ t → one (t && not (near x k)) ≡ 0
      go true e = ap (λ (t : Bool). one (not t)) ((near_round x k l).1 (f e))
      go false e = refl

  none_pair : (x k : ℕ) → k < length m.lightpaths → one (apart m x k) ≡ 0 → rides m x k ≡ true → Round x k
  none_pair x k l z e = (near_round x k l).0 (go (near x k) (ap (λ (t : Bool). one (t && not (near x k))) (sym e) ∙ z))
    where
      go : (t : Bool) → one (not t) ≡ 0 → t ≡ true
      go true h = refl
      go false h = absurd (omega (arith, h))

  -- what F counts, in terms of chains
  pub apart_exact : (x k : ℕ) → k < length m.lightpaths → (apart m x k ≡ true) ↔ ((rides m x k ≡ true) × (Joined (network m) (without m x) ((network m).from k) ((network m).to k) → ⊥))
  apart_exact x k l = (
    (λ h. let p = and_inv {a = rides m x k} h in (p.0, (λ j. true≢false (sym ((near_round x k l).1 j) ∙ not-true (near x k) p.1)))),
    (λ p. and_both p.0 (far (near x k) (λ h. p.1 ((near_round x k l).0 h)))),
  )
    where
      far : (t : Bool) → (t ≡ true → ⊥) → not t ≡ true
      far true h = absurd (h refl)
      far false h = refl

  score_none : (score_f m ≡ 0) ↔ NoneApart
  score_none = (
    (λ z x k a b. none_pair x k b (none_sum _ (length m.lightpaths) (none_sum _ (length m.spans) z x a) k b)),
    (λ f. sum_none _ (length m.spans) (λ x a. sum_none _ (length m.lightpaths) (λ k b. pair_none x k b (f x k a b)))),
  )

  -- a link that is up with all, with a span out: itself, or the way round
  way : NoneApart → (x : ℕ) → x < length m.spans → (a b : ℕ) → Link (network m) all_up a b → Joined (network m) (without m x) a b
  way none x l a b k = go (rides m x k.number) refl
    where
      ends : Round x k.number → (((network m).from k.number ≡ a) × ((network m).to k.number ≡ b)) ⊎ (((network m).to k.number ≡ a) × ((network m).from k.number ≡ b))
          → Joined (network m) (without m x) a b
      ends j (inl r) = rw (← r.0, ← r.1) j
      ends j (inr r) = rw (← r.0, ← r.1) (join_sym (network m) (without m x) j)

      go : (t : Bool) → rides m x k.number ≡ t → Joined (network m) (without m x) a b
      go true e = ends (none x k.number l k.below e) k.runs
      go false e = more start (record { number = k.number; below = k.below; is_up = ap not e; runs = k.runs })

  -- THE LAW, whether or not OVER hides it
  pub score_joined : AllJoined m all_up → (score_f m ≡ 0) ↔ ((x : ℕ) → x < length m.spans → AllJoined m (without m x))
  score_joined intact = (
    (λ z x l i st. join_bind (network m) all_up (without m x) (way (score_none.0 z) x l) (intact i st)),
    (λ each. score_none.1 (λ x k l q h.
        let st = ends_stations m good k q in
        join_trans (network m) (without m x) (join_sym (network m) (without m x) (each x l _ st.0)) (each x l _ st.1))),
  )

  pub score_f_most : score_f m ≤ 1536
  score_f_most = le_trans (sum_le _ _ (length m.spans) (λ x a. sum_le _ _ (length m.lightpaths) (λ k b. both_le (rides m x k) _))) (omega (arith, loads_most m good (length m.spans), counts m good))
    where
      both_le : (a b : Bool) → one (a && b) ≤ one a
      both_le true true = omega arith
      both_le true false = omega arith
      both_le false b = omega arith

  -- an acceptable choice has nothing to count
  pub okay_scores : verdict m ≡ Okay → (score_f m ≡ 0) × (score_fc m ≡ 0)
  okay_scores e =
      let p = (okay_exact m good).0 e in
      ((score_joined p.1.intact).1 p.1.each, sum_none _ (length m.spans) (λ x l. omega (arith, p.0 x l)))
