-- The rounds in an array, the trail from round to round, and the answer on one lightpath: what the loops of the search rely on.
-- The rounds that are left out would tell no more, and what is left of the way gathers the rest of the ring.
use Prim.Native.Nat.{ℕ, suc, ◌+◌, ◌-◌, ◌^◌, ◌<◌, ◌≤◌}
use mathlib.Core.Path.{◌≡◌, refl, sym, ap, ◌∙◌, subst}
use mathlib.Core.List.{List}
use mathlib.Core.Bool.{Bool, true, false, cond, ◌&&◌, ◌||◌}
use Rattle.std.specs.Prelude.{Option, Some, None}
use Rattle.std.specs.Bool.{then_some}
use native.Mathlib.Numerals.{add-one}
use native.Mathlib.Nat.{le_refl}
use native.Mathlib.Decide.{ℕ_discrete}
use native.Mathlib.Omega.{arith}
use lib.Dec.{eqb}
use lib.ListN.{length, get_or, set, length-set}
use lib.Seq.{get_or-set_same, get_or-set_other}
use borrow.Author.Tests.{eq-eqb, ne_eqb, lt-ltb}
use Rattle.book.specs.Bits.{bit, has, put}
use Rattle.book.proofs.Bits.{has_true, true_has, put_zero}
use Rattle.judgement.specs.Network.{Network}
use Rattle.judgement.specs.Ways.{widen, near, leads, far, way}
use Rattle.judgement.specs.Merge.{but, RoundsTo, with_path, gathered, empty_trail, nearer_by, trail_of, merges_by, ring_at}
use Rattle.judgement.specs.declared.ways.Rounds.{Rounds}
use Rattle.judgement.specs.declared.ring.Trail.{Trail}
use Rattle.judgement.specs.declared.side.Side.{Side}
use Rattle.judgement.proofs.FirstWays.{step_of, step_is, way_stay, way_step}
use Rattle.judgement.proofs.Lowest.{first_lowest}
use Rattle.judgement.proofs.Rounds.{met, ended}

-- a round: no lightpath, and one more
module _ (net : Network) (free : ℕ → Bool) (old : ℕ) where
  pub widen_none : widen net free old 0 ≡ old
  unfolding widen
  widen_none = refl

  pub widen_next : (k : ℕ) → widen net free old (k + 1)
      ≡ cond (free k && (has old (net.from k) || has old (net.to k))) (put (put (widen net free old k) (net.from k)) (net.to k)) (widen net free old k)
  unfolding widen
  widen_next k = ap (widen net free old) (add-one k)

module _ (net : Network) (free : ℕ → Bool) (y : ℕ) where
  -- the rounds so far
  pub record Rounding (x : ℕ) (sets : List ℕ) (last side : ℕ) : Type 0 where
    pub long : length sets ≡ 65
    pub few : last ≤ 64
    pub each : (j : ℕ) → j ≤ last → get_or sets j 0 ≡ near net free y j
    pub is : side ≡ near net free y last

  module _ (x : ℕ) where
    pub rounding_start : (sets : List ℕ) {side : ℕ} → length sets ≡ 65 → side ≡ put 0 y → Rounding x (set sets 0 side) 0 side
    unfolding near
    rounding_start sets {side} long e =
        let z : side ≡ 2 ^ y = e ∙ put_zero y in
        record {
          long = length-set sets 0 side ∙ long;
          few = omega arith;
          each = λ j l. let j0 : j ≡ 0 = omega arith in rw j0 (get_or-set_same sets 0 side 0 (omega (arith, long)) ∙ z);
          is = z;
        }

    module _ {sets : List ℕ} {last side : ℕ} (now : Rounding x sets last side) where
      pub rounding_next : last < 64 → {next : ℕ} → next ≡ widen net free side net.count → Rounding x (set sets (last + 1) next) (last + 1) next
      unfolding near
      rounding_next l {next} e =
          let z : next ≡ near net free y (last + 1) = e ∙ ap (λ (o : ℕ). widen net free o net.count) now.is ∙ sym (ap (near net free y) (add-one last)) in
          record {
            long = length-set sets (last + 1) next ∙ now.long;
            few = omega arith;
            each = λ j q. go z j q (ℕ_discrete j (last + 1));
            is = z;
          }
        where
          go : next ≡ near net free y (last + 1) → (j : ℕ) → j ≤ last + 1 → Dec (j ≡ last + 1) → get_or (set sets (last + 1) next) j 0 ≡ near net free y j
          go z j q (yes e) = rw e (get_or-set_same sets (last + 1) next 0 (omega (arith, now.long)) ∙ z)
          go z j q (no n) = get_or-set_other sets (last + 1) j next 0 n ∙ now.each j (omega arith)

      told : has (near net free y 64) x ≡ has (near net free y last) x → RoundsTo net free y x (record { sets = sets; last = last })
      told m = record {
        long = now.long;
        few = now.few;
        each = now.each;
        met = m;
        same = λ h. (met net free y last x (true_has _ x h) 64 now.few).1;
      }

      -- the three ends: x is met, a round adds nothing, and all rounds are made
      pub rounding_met : has side x ≡ true → RoundsTo net free y x (record { sets = sets; last = last })
      rounding_met h =
          let z = ap (λ (m : ℕ). has m x) (sym now.is) ∙ h in
          told (has_true _ x (met net free y last x (true_has _ x z) 64 now.few).0 ∙ sym z)

      pub rounding_same : widen net free side net.count ≡ side → RoundsTo net free y x (record { sets = sets; last = last })
      unfolding near
      rounding_same h = told (ap (λ (m : ℕ). has m x) (ended net free y last (subst (λ (m : ℕ). widen net free m net.count ≡ m) now.is h) 64 now.few))

      pub rounding_all : 64 ≤ last → RoundsTo net free y x (record { sets = sets; last = last })
      rounding_all l = let z : 64 ≡ last = omega (arith, now.few) in told (ap (λ (n : ℕ). has (near net free y n) x) z)

-- whether the last round met x, and so whether any does
module _ {net : Network} {free : ℕ → Bool} {y x : ℕ} {r : Rounds} (told : RoundsTo net free y x r) {d : ℕ} (last : d ≡ get_or r.sets r.last 0)
    {t : Bool} (e : t ≡ has d x) where
  pub last_met : has (near net free y r.last) x ≡ t
  last_met = ap (λ (m : ℕ). has m x) (sym (last ∙ told.each r.last (le_refl _))) ∙ sym e

  pub all_met : has (near net free y 64) x ≡ t
  all_met = told.met ∙ last_met

module _ (net : Network) (low high : List ℕ) (k : ℕ) where
  -- the way is on: it has come to a piece of round `left`, and what is left of it gathers the rest of the ring
  pub record Trailing (last left : ℕ) (t : Trail) : Type 0 where
    pub few : left ≤ last
    pub at_low : t.at < 64
    pub met : bit (near net (but k) (net.to k) left) t.at ≡ 1
    pub rest : gathered net low high (way net (but k) (net.to k) left t.at) t ≡ trail_of net low high k

  pub trailing_start : {r : Rounds} {t : Trail} → RoundsTo net (but k) (net.to k) (net.from k) r → (net.from k ≡ net.to k → ⊥) → net.from k < 64
      → has (near net (but k) (net.to k) r.last) (net.from k) ≡ true → t ≡ with_path net low high (empty_trail net low high (net.to k)) k
      → Trailing r.last r.last t
  unfolding trail_of gathered
  trailing_start {r} {t} told ne l h e =
      let z : t.at ≡ net.from k = ap (λ (u : Trail). u.at) e ∙ ap (λ (b : Bool). cond b (net.to k) (net.from k)) (ne_eqb (net.from k) (net.to k) ne) in
      record {
        few = le_refl _;
        at_low = omega arith;
        met = rw z (true_has _ _ h);
        rest =
            ap (λ (x : ℕ). gathered net low high (way net (but k) (net.to k) r.last x) t) z
            ∙ ap (λ (ks : List ℕ). gathered net low high ks t) (sym (told.same h))
            ∙ ap (gathered net low high (way net (but k) (net.to k) 64 (net.from k))) e;
      }

  trailing_suc : {last n : ℕ} {t : Trail} → ((j : ℕ) → (net.from j < 64) × (net.to j < 64)) → Trailing last (suc n) t
      → (b : Bool) → has (near net (but k) (net.to k) n) t.at ≡ b
      → Trailing last n (cond b t (with_path net low high t (step_of net (but k) (net.to k) n t.at)))
  unfolding gathered far
  trailing_suc {last} {n} {t} ends now true e = record {
    few = omega (arith, now.few);
    at_low = now.at_low;
    met = true_has _ _ e;
    rest = ap (λ (ks : List ℕ). gathered net low high ks t) (sym (way_stay net (but k) (net.to k) n t.at e)) ∙ now.rest;
  }
  trailing_suc {last} {n} {t} ends now false e =
      let s = step_is net (but k) (net.to k) n t.at e now.met in
      record {
        few = omega (arith, now.few);
        at_low = low_end (eqb (net.from (step_of net (but k) (net.to k) n t.at)) t.at) (ends (step_of net (but k) (net.to k) n t.at));
        met = s.led.into;
        rest = ap (λ (ks : List ℕ). gathered net low high ks t) (sym (way_step net (but k) (net.to k) n t.at e)) ∙ now.rest;
      }
    where
      low_end : (b : Bool) {x y : ℕ} → (x < 64) × (y < 64) → cond b y x < 64
      low_end true h = h.1
      low_end false h = h.0

  -- the lightpath that `nearer` takes, if it takes one
  nearer_is : {last n : ℕ} {t : Trail} → Trailing last (suc n) t → (b : Bool) → has (near net (but k) (net.to k) n) t.at ≡ b
      → nearer_by net (but k) low high (near net (but k) (net.to k) n) t ≡ cond b t (with_path net low high t (step_of net (but k) (net.to k) n t.at))
  unfolding nearer_by
  nearer_is now true e = rw e
  nearer_is {n = n} {t = t} now false e =
      rw e (
      first_lowest (leads net (but k) t.at (near net (but k) (net.to k) n)) (with_path net low high t) t net.count
      ∙ ap (λ (b : Bool). cond b (with_path net low high t (step_of net (but k) (net.to k) n t.at)) t)
      (lt-ltb _ _ (step_is net (but k) (net.to k) n t.at e now.met).below)
      )

  pub trailing_next : {last left : ℕ} {t t' : Trail} → ((j : ℕ) → (net.from j < 64) × (net.to j < 64)) → Trailing last left t → 0 < left
      → t' ≡ nearer_by net (but k) low high (near net (but k) (net.to k) (left - 1)) t → Trailing last (left - 1) t'
  trailing_next {last} {left} {t} ends now l e =
      let z : left ≡ suc (left - 1) = omega arith in
      let now' = subst (λ (n : ℕ). Trailing last n t) z now in
      let b = has (near net (but k) (net.to k) (left - 1)) t.at in
      subst (Trailing last (left - 1)) (sym (e ∙ nearer_is now' b refl)) (trailing_suc ends now' b refl)

  pub trailing_done : {last left : ℕ} {t : Trail} → Trailing last left t → left ≤ 0 → t ≡ trail_of net low high k
  unfolding gathered way
  trailing_done {last} {left} {t} now l =
      let z : left ≡ 0 = omega arith in
      ap (λ (n : ℕ). gathered net low high (way net (but k) (net.to k) n t.at) t) (sym z) ∙ now.rest

  -- the answer on lightpath k, test by test
  abbrev Answer : Option Side → Type 0
  Answer r = r ≡ cond (merges_by net low high k) (ring_at net low high k) None

  pub same_piece : net.from k ≡ net.to k → Answer None
  unfolding merges_by
  same_piece e = rw (eq-eqb (net.from k) (net.to k) e)

  module _ (ne : net.from k ≡ net.to k → ⊥) where
    pub no_way : has (near net (but k) (net.to k) 64) (net.from k) ≡ false → Answer None
    unfolding merges_by
    no_way h = rw (ne_eqb (net.from k) (net.to k) ne, h)

    pub sparing : has (near net (but k) (net.to k) 64) (net.from k) ≡ true → {t : Trail} → t ≡ trail_of net low high k
        → {b : Bool} → b ≡ (eqb t.low.twice 0 && eqb t.high.twice 0) → Answer (then_some b t.touched)
    unfolding merges_by
    sparing h {t} e {b} is =
        when b ∙ rw (is, e) (sym (rw (ne_eqb (net.from k) (net.to k) ne, h)))
      where
        when : (a : Bool) → then_some a t.touched ≡ cond a (Some t.touched) None
        when true = refl
        when false = refl

-- what an answer on one lightpath says of the test
pub ring_hit : {b : Bool} {s u : Side} → Some s ≡ cond b (Some u) None → (b ≡ true) × (s ≡ u)
ring_hit {b = true} e = (refl, cc)
ring_hit {b = false} e = cc

pub ring_miss : (b : Bool) (u : Side) → None ≡ cond b (Some u) None → b ≡ false
ring_miss true u e = cc
ring_miss false u e = refl
