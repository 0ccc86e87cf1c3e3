-- The two forms of survivability are one: a chain between two sides has a lightpath that crosses, and where a station is not joined the side of the lowest
-- is a division that nothing that is up crosses. Demand 2 may so be read in either form.
use Prim.Native.Nat.{ℕ, ◌<◌, zero-le}
use mathlib.Core.Path.{◌≡◌, refl, sym, ap, ◌∙◌}
use mathlib.Core.Logic.{◌⊎◌, inl, inr, ⊎_elim, ◌↔◌}
use mathlib.Core.Bool.{Bool, true, false, not, ◌&&◌, true≢false, Bool-discrete}
use native.Mathlib.Omega.{arith}
use borrow.Author.Tests.{not-true, not-false}
use Rattle.book.specs.Book.{RouteBook, well_formed}
use Rattle.book.specs.Bits.{has}
use Rattle.book.proofs.Tests.{and_inv}
use Rattle.book.proofs.Bounds.{station_lt}
use Rattle.judgement.specs.Network.{Network, Joined, start, more}
use Rattle.judgement.specs.Judgement.{rides, network, without, all_up, stations, lowest, side}
use Rattle.judgement.specs.Cuts.{AllJoined, Survives, Divides, Crosses, Carries, CutForm}
use Rattle.judgement.proofs.Tests.{bool_iff}
use Rattle.judgement.proofs.Stations.{lowest_has}
use Rattle.judgement.proofs.First.{First, there, nowhere, first}
use Rattle.judgement.proofs.Whole.{side_has}

runs_same : (A : ℕ → Bool) {a b x y : ℕ} → ((a ≡ x) × (b ≡ y)) ⊎ ((b ≡ x) × (a ≡ y)) → A a ≡ A b → A x ≡ A y
runs_same A (inl r) e = ap A (sym r.0) ∙ e ∙ ap A r.1
runs_same A (inr r) e = ap A (sym r.0) ∙ sym e ∙ ap A r.1

-- a chain between nodes on two sides has a link that crosses
chain_crosses : (net : Network) (up : ℕ → Bool) (A : ℕ → Bool) (s i : ℕ) → Joined net up s i → (A s ≡ A i → ⊥)
    → (k : ℕ) × (k < net.count) × (up k ≡ true) × (A (net.from k) ≡ A (net.to k) → ⊥)
chain_crosses net up A s i start ne = absurd (ne refl)
chain_crosses net up A s i (more {x} {y} j l) ne = go (Bool-discrete (A s) (A x)) (chain_crosses net up A s x j)
  where
    go : Dec (A s ≡ A x) → ((A s ≡ A x → ⊥) → (k : ℕ) × (k < net.count) × (up k ≡ true) × (A (net.from k) ≡ A (net.to k) → ⊥))
        → (k : ℕ) × (k < net.count) × (up k ≡ true) × (A (net.from k) ≡ A (net.to k) → ⊥)
    go (no n) ih = ih n
    go (yes e) ih = (l.number, l.below, l.is_up, (λ h. ne (e ∙ runs_same A l.runs h)))

module _ (m : RouteBook) (good : well_formed m ≡ true) where
  -- no lightpath that is up leaves the side of the lowest station
  side_closed : (up : ℕ → Bool) (k : ℕ) → k < (network m).count → up k ≡ true → has (side m up) ((network m).from k) ≡ has (side m up) ((network m).to k)
  side_closed up k l u = bool_iff _ _ (on (inl (refl, refl))) (on (inr (refl, refl)))
    where
      on : {x y : ℕ} → (((network m).from k ≡ x) × ((network m).to k ≡ y)) ⊎ (((network m).to k ≡ x) × ((network m).from k ≡ y))
          → has (side m up) x ≡ true → has (side m up) y ≡ true
      on {x} {y} r h = (side_has m good up y).1 (more ((side_has m good up x).0 h) (record { number = k; below = l; is_up = u; runs = r }))

  -- a station that the side of the lowest does not hold
  abbrev lost : (ℕ → Bool) → ℕ → Bool
  lost up i = has (stations m) i && not (has (side m up) i)

  -- all stations are joined, or the side of the lowest divides them
  decided : (up : ℕ → Bool) → AllJoined m up ⊎ Divides m (has (side m up))
  decided up = go (first (lost up) (λ i. i) 64 64 0)
    where
      go : {i : ℕ} → First (lost up) (λ i. i) 64 64 0 i → AllJoined m up ⊎ Divides m (has (side m up))
      go (there i a b h low) = let p = and_inv {a = has (stations m) i} h in inr (record {
        inside = lowest m;
        outside = i;
        inside_station = lowest_has m good;
        outside_station = p.0;
        is_in = (side_has m good up (lowest m)).1 start;
        is_out = not-true _ p.1;
      })
      go (nowhere h) = inl (λ i st.
          (side_has m good up i).0 (not-false _ (ap (λ (t : Bool). t && not (has (side m up) i)) (sym st) ∙ h i zero-le (omega (arith, station_lt m good i st)))))

  -- joined stations on two sides: a lightpath that is up crosses
  crossing : (up A : ℕ → Bool) → AllJoined m up → Divides m A → (k : ℕ) × (up k ≡ true) × Crosses m A k
  crossing up A all d = go (Bool-discrete (A (lowest m)) true)
    where
      reach : (i : ℕ) → has (stations m) i ≡ true → (A (lowest m) ≡ A i → ⊥) → (k : ℕ) × (up k ≡ true) × Crosses m A k
      reach i st ne = let z = chain_crosses (network m) up A (lowest m) i (all i st) ne in (z.0, z.2, (z.1, z.3))

      go : Dec (A (lowest m) ≡ true) → (k : ℕ) × (up k ≡ true) × Crosses m A k
      go (yes e) = reach d.outside d.outside_station (λ h. true≢false (sym e ∙ h ∙ d.is_out))
      go (no n) = reach d.inside d.inside_station (λ h. n (h ∙ d.is_in))

  -- such a side with a span out: whatever crosses it rides the span
  carried : (x : ℕ) → Divides m (has (side m (without m x))) → Carries m x
  carried x d = record { part = has (side m (without m x)); divides = d; all_ride = λ k c. go k c (rides m x k) refl }
    where
      go : (k : ℕ) → Crosses m (has (side m (without m x))) k → (t : Bool) → rides m x k ≡ t → t ≡ true
      go k c true e = refl
      go k c false e = absurd (c.1 (side_closed (without m x) k c.0 (ap not e)))

  -- THE LAW of a span: its loss parts the stations exactly if it carries a whole cut set
  pub carries_cut : (x : ℕ) → Carries m x ↔ (AllJoined m (without m x) → ⊥)
  carries_cut x = (
    (λ c all. let z = crossing (without m x) c.part all c.divides in true≢false (sym z.1 ∙ ap not (c.all_ride z.0 z.2))),
    (λ ne. ⊎_elim (λ all. absurd (ne all)) (carried x) (decided (without m x))),
  )

  -- THE LAW of the whole network: it is split exactly if nothing crosses some division
  pub crossed_joined : AllJoined m all_up ↔ ((A : ℕ → Bool) → Divides m A → (k : ℕ) × Crosses m A k)
  crossed_joined = (
    (λ all A d. let z = crossing all_up A all d in (z.0, z.2)),
    (λ f. ⊎_elim (λ all. all) (λ d. let z = f _ d in absurd (z.1.1 (side_closed all_up z.0 z.1.0 refl))) (decided all_up)),
  )

  -- THE LAW of the two forms
  pub same_forms : Survives m ↔ CutForm m
  same_forms = (
    (λ v. record { crossed = crossed_joined.0 v.intact; spared = λ x l c. (carries_cut x).0 c (v.each x l) }),
    (λ f. record {
      intact = crossed_joined.1 f.crossed;
      each = λ x l. ⊎_elim (λ all. all) (λ d. absurd (f.spared x l (carried x d))) (decided (without m x));
    }),
  )
