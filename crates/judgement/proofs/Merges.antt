-- ONE MERGE: what the test of a lightpath says, that its ring is the first way round and may be merged, and that the labels only fall. So the pieces still
-- hold together after the merge, and the sum of the labels is less.
use Prim.Native.Nat.{ℕ, ◌<◌, ◌≤◌}
use mathlib.Core.Path.{◌≡◌, refl, sym, ap, ◌∙◌, subst}
use mathlib.Core.List.{List, ◌∷◌}
use mathlib.Core.Logic.{inl, inr, ◌↔◌}
use mathlib.Core.Bool.{Bool, true, false, cond, not, false≢true}
use native.Mathlib.Omega.{arith}
use native.Mathlib.Decide.{dec_lt}
use lib.Dec.{eqb, leb}
use lib.ListN.{length}
use borrow.Author.Tests.{eq-eqb, leb-true}
use Rattle.book.specs.Book.{RouteBook, well_formed}
use Rattle.book.proofs.Bits.{has_true, true_has}
use Rattle.book.proofs.Bounds.{ends_lt}
use Rattle.book.proofs.Tests.{and_inv}
use Rattle.judgement.specs.Network.{Network}
use Rattle.judgement.specs.Judgement.{sum, rides, network, all_up}
use Rattle.judgement.specs.Pieces.{over}
use Rattle.judgement.specs.Ways.{Lex, none, less, same, Before, Distinct, extra, Way, here, hop, way}
use Rattle.judgement.specs.Contraction.{lost, touches, others, round, ring_of, merges, lowest_label, merged}
use Rattle.judgement.proofs.Tests.{or_l, or_r}
use Rattle.judgement.proofs.Sums.{sum_less}
use Rattle.judgement.proofs.Lowest.{lowest_le, every_at}
use Rattle.judgement.proofs.Rings.{Ring}
use Rattle.judgement.proofs.FirstWays.{way_is, way_before}
use Rattle.judgement.proofs.Rounds.{near_all}
use Rattle.judgement.proofs.Distinct.{way_free, way_distinct}

-- of two lists that each come before the other the one is the other
lex_same : {ks js is ls : List ℕ} → Lex ks js → Lex is ls → js ≡ is → ks ≡ ls → ks ≡ js
lex_same none none p q = refl
lex_same none (less l) p q = cc
lex_same none (same w) p q = cc
lex_same (less l) none p q = cc
lex_same (same v) none p q = cc
lex_same (less {k = k} {j = j} l) (less {k = h} {j = i} w) p q = let a : j ≡ h = cc in let b : k ≡ i = cc in absurd (omega arith)
lex_same (less {k = k} {j = j} l) (same {k = h} w) p q = let a : j ≡ h = cc in let b : k ≡ h = cc in absurd (omega arith)
lex_same (same {k = k} v) (less {k = h} {j = i} w) p q = let a : k ≡ h = cc in let b : k ≡ i = cc in absurd (omega arith)
lex_same (same {k = k} {ks = ks} {js = js} v) (same {ks = is} {js = ls} w) p q =
    let e : js ≡ is = cc in
    let f : ks ≡ ls = cc in
    ap (λ (xs : List ℕ). k ∷ xs) (lex_same v w e f)

lex_once : {ks js : List ℕ} → Lex ks js → Lex js ks → ks ≡ js
lex_once l q = lex_same l q refl refl

before_once : {ks js : List ℕ} → Before ks js → Before js ks → ks ≡ js
before_once (inl l) (inl q) = absurd (omega arith)
before_once (inl l) (inr q) = absurd (omega (arith, q.0))
before_once (inr l) (inl q) = absurd (omega (arith, l.0))
before_once (inr l) (inr q) = lex_once l.1 q.1

-- a way is one though more lightpaths may be used
way_more : (net : Network) (free : ℕ → Bool) {x y : ℕ} {ks : List ℕ} → Way net free x ks y → Way net all_up x ks y
way_more net free here = here
way_more net free (hop l f r w) = hop l refl r (way_more net free w)

module _ (m : RouteBook) (piece : ℕ → ℕ) where
  -- K8: a way by others between the pieces of k's ends
  abbrev pub WayRound : ℕ → List ℕ → Type 0
  WayRound k ks = Way (over (network m) piece) (others m piece k) (piece ((network m).from k)) ks (piece ((network m).to k))

  -- K10, K11: the first of them, which uses no lightpath twice
  pub record FirstWay (k : ℕ) (ks : List ℕ) : Type 0 where
    pub runs : WayRound k ks
    pub before : (js : List ℕ) → WayRound k js → Before ks js
    pub once : Distinct (k ∷ ks)

  pub first_once : (k : ℕ) {ks js : List ℕ} → FirstWay k ks → FirstWay k js → ks ≡ js
  first_once k {ks} {js} a b = before_once (a.before js b.runs) (b.before ks a.runs)

  -- K12: what it is for lightpath k to merge: it joins two pieces, there is a way round, and no span carries two of the ring
  pub record Merges (k : ℕ) : Type 0 where
    pub parts : piece ((network m).from k) ≡ piece ((network m).to k) → ⊥
    pub rounds : round m piece k ≡ true
    pub spared : (x : ℕ) → x < length m.spans → lost (rides m x) (ring_of m piece k) ≤ 1

  pub merges_inv : (k : ℕ) → merges m piece k ≡ true → Merges k
  unfolding merges
  merges_inv k e =
      let b = and_inv {a = not (eqb (piece ((network m).from k)) (piece ((network m).to k)))} e in
      let c = and_inv {a = round m piece k} b.1 in
      record {
        parts = λ y. false≢true (sym (ap not (eq-eqb _ _ y)) ∙ b.0);
        rounds = c.0;
        spared = λ x q. leb-true _ _ (every_at (λ y. leb (lost (rides m y) (ring_of m piece k)) 1) (length m.spans) c.1 x q);
      }

  -- THE LAW of the ring: it is k and the first of all ways round, where there is one, and no lightpath stands in it twice
  module _ (k : ℕ) where
    abbrev net : Network
    net = over (network m) piece

    abbrev from : ℕ
    from = piece ((network m).from k)

    abbrev to : ℕ
    to = piece ((network m).to k)

    pub ring_first : round m piece k ≡ true → (ks : List ℕ) × (ring_of m piece k ≡ k ∷ ks) × FirstWay k ks
    ring_first h =
        let is = way_is net (others m piece k) to 64 from (true_has _ _ h) in (
          way net (others m piece k) to 64 from,
          refl,
          record {
            runs = is.runs;
            before = way_before net (others m piece k) to 64 from (true_has _ _ h);
            once =
                extra (λ i. false≢true (sym (ap not (eq-eqb k k refl)) ∙ way_free net (others m piece k) is.runs k i))
                (way_distinct net (others m piece k) to 64 from (true_has _ _ h));
          },
        )

    -- it touches the pieces of k's ends
    pub touch_from : touches (over (network m) piece) (ring_of m piece k) (piece ((network m).from k)) ≡ true
    unfolding touches
    touch_from = or_l _ (or_l _ (eq-eqb (piece ((network m).from k)) _ refl))

    pub touch_to : touches (over (network m) piece) (ring_of m piece k) (piece ((network m).to k)) ≡ true
    unfolding touches
    touch_to = or_l _ (or_r (eqb (piece ((network m).from k)) (piece ((network m).to k))) (eq-eqb (piece ((network m).to k)) _ refl))

    -- and a merge gives all that it touches one label
    merged_at : (i : ℕ) → touches (over (network m) piece) (ring_of m piece k) (piece i) ≡ true
        → merged m piece (ring_of m piece k) i ≡ lowest_label m piece (ring_of m piece k)
    unfolding merged
    merged_at i e = rw e

module _ (m : RouteBook) (good : well_formed m ≡ true) (piece : ℕ → ℕ) (low : (i : ℕ) → i < 64 → piece i < 64) (k : ℕ) (l : k < length m.lightpaths) where
  ends : (j : ℕ) → j < length m.lightpaths → (piece ((network m).from j) < 64) × (piece ((network m).to j) < 64)
  ends j q = (low _ (ends_lt m good j q).0, low _ (ends_lt m good j q).1)

  -- THE LAW of the test: it says that there is a way round
  pub round_iff : (round m piece k ≡ true) ↔ ((ks : List ℕ) × WayRound m piece k ks)
  round_iff = (
    (λ h. let w = ring_first m piece k h in (w.0, w.2.runs)),
    (λ w. has_true _ _ (near_all (over (network m) piece) (others m piece k) (piece ((network m).to k)) 64 (ends k l).1 ends w.1)),
  )

  -- a ring that merges may be merged
  pub ring_is : Merges m piece k → Ring m piece (ring_of m piece k)
  ring_is h = record {
    base = piece ((network m).to k);
    closed =
        let w = ring_first m piece k h.rounds in
        subst (λ (ks : List ℕ). Way (over (network m) piece) all_up (piece ((network m).to k)) ks (piece ((network m).to k))) (sym w.1)
        (hop l refl (inr (refl, refl)) (way_more (over (network m) piece) (others m piece k) w.2.runs));
    spared = h.spared;
  }

module _ (m : RouteBook) (good : well_formed m ≡ true) (piece : ℕ → ℕ) (k : ℕ) (l : k < length m.lightpaths) where
  abbrev ring : List ℕ
  ring = ring_of m piece k

  abbrev touched : ℕ → Bool
  touched = touches (over (network m) piece) ring

  -- the labels only fall
  pub merged_le : (i : ℕ) → merged m piece (ring_of m piece k) i ≤ piece i
  unfolding merged lowest_label
  merged_le i = turn (touched (piece i)) refl
    where
      turn : (b : Bool) → touches (over (network m) piece) (ring_of m piece k) (piece i) ≡ b
          → cond b (lowest_label m piece (ring_of m piece k)) (piece i) ≤ piece i
      turn true e = lowest_le touched 64 (piece i) e
      turn false e = omega arith

  -- THE LAW: so the sum of the labels is less
  pub merged_less : Merges m piece k → sum (merged m piece (ring_of m piece k)) 64 < sum piece 64
  merged_less h = turn (dec_lt (merged m piece ring ((network m).from k)) (piece ((network m).from k)))
    where
      turn : Dec (merged m piece (ring_of m piece k) ((network m).from k) < piece ((network m).from k)) → sum (merged m piece (ring_of m piece k)) 64 < sum piece 64
      turn (yes q) = sum_less _ piece 64 ((network m).from k) (λ i q. merged_le i) (ends_lt m good k l).0 q
      turn (no q) = sum_less _ piece 64 ((network m).to k) (λ i q. merged_le i) (ends_lt m good k l).1
          (let a = merged_at m piece k ((network m).from k) (touch_from m piece k) in
          let b = merged_at m piece k ((network m).to k) (touch_to m piece k) in
          let c = merged_le ((network m).from k) in
          let d = merged_le ((network m).to k) in
          omega (arith, h.parts))
