-- THE JUDGEMENT OVER PIECES that hold together is the judgement of the book. A chain of lightpaths is a chain over the pieces, and a chain over the pieces is
-- one of lightpaths once the chains within the pieces are put in; so in every state the sides have the same stations, and the verdicts are the same.
use Prim.Native.Nat.{ℕ, ◌^◌, ◌<◌}
use mathlib.Core.Path.{◌≡◌, refl, sym, ap, ◌∙◌, subst}
use mathlib.Core.Logic.{inl, inr, ⊎_elim, ◌↔◌}
use mathlib.Core.Bool.{Bool, true, not, ◌&&◌}
use native.Mathlib.Omega.{arith}
use lib.ListN.{length}
use borrow.Author.Tests.{eqb-true, eq-eqb}
use Rattle.book.specs.Book.{RouteBook, well_formed}
use Rattle.book.specs.Bits.{has, bit}
use Rattle.book.proofs.Bits.{has_true, true_has}
use Rattle.book.proofs.Bounds.{station_lt, ends_stations, ends_lt}
use Rattle.book.proofs.Tests.{and_inv, and_both}
use Rattle.judgement.specs.Network.{Network, Joined, start, more}
use Rattle.judgement.specs.Judgement.{network, without, all_up, stations, lowest, side, whole, cut_or_okay, split_or}
use Rattle.judgement.specs.Cuts.{AllJoined}
use Rattle.judgement.specs.Pieces.{over, labels, piece_side, piece_whole, in_stations, cut_over, split_over, Together, HoldTogether, HoldBy}
use Rattle.judgement.specs.Ways.{Runs}
use Rattle.judgement.specs.declared.Verdict.TheVariants.{Cut, Okay}
use Rattle.judgement.proofs.Tests.{bool_iff}
use Rattle.judgement.proofs.Sets.{set_same}
use Rattle.judgement.proofs.Joins.{side_joined, side_grown}
use Rattle.judgement.proofs.Stations.{lowest_lt, lowest_has}
use Rattle.judgement.proofs.Whole.{side_has, side_lt, joined_station, whole_joined}
use Rattle.judgement.proofs.Chains.{join_trans, join_bind}
use Rattle.judgement.proofs.First.{first_alike}
use Rattle.judgement.proofs.Labels.{labels_in, labels_of, labels_lt}

-- a chain of lightpaths is a chain over the pieces
to_pieces : (net : Network) (up : ℕ → Bool) (piece : ℕ → ℕ) {x y : ℕ} → Joined net up x y → Joined (over net piece) up (piece x) (piece y)
to_pieces net up piece start = start
to_pieces net up piece (more j l) = more (to_pieces net up piece j) (record {
  number = l.number;
  below = l.below;
  is_up = l.is_up;
  runs = ⊎_elim (λ r. inl (ap piece r.0, ap piece r.1)) (λ r. inr (ap piece r.0, ap piece r.1)) l.runs;
})

-- one state, in which the stations of each piece are joined
module _ (m : RouteBook) (good : well_formed m ≡ true) (piece : ℕ → ℕ) (up : ℕ → Bool) (together : Together m piece up) where
  abbrev Station : ℕ → Type 0
  Station i = has (stations m) i ≡ true

  -- a chain over the pieces is a chain of lightpaths, with the chains within the pieces put in
  from_pieces : (x q : ℕ) → Station x → Joined (over (network m) piece) up (piece x) q → (y : ℕ) → Station y → piece y ≡ q → Joined (network m) up x y
  from_pieces x q sx start y sy e = together x y sx sy (sym e)
  from_pieces x q sx (more {x = a} {y = b} j l) y sy e = go (λ z sz f. from_pieces x a sx j z sz f) l.runs
    where
      k : ℕ
      k = l.number

      st : Station ((network m).from k) × Station ((network m).to k)
      st = ends_stations m good k l.below

      go : ((z : ℕ) → Station z → piece z ≡ a → Joined (network m) up x z) → Runs (over (network m) piece) k a b → Joined (network m) up x y
      go ih (inl r) =
          join_trans (network m) up
          (more (ih _ st.0 r.0) (record { number = k; below = l.below; is_up = l.is_up; runs = inl (refl, refl) }))
          (together _ y st.1 sy (r.1 ∙ sym e))
      go ih (inr r) =
          join_trans (network m) up
          (more (ih _ st.1 r.0) (record { number = k; below = l.below; is_up = l.is_up; runs = inr (refl, refl) }))
          (together _ y st.0 sy (r.1 ∙ sym e))

  -- THE LAW of one state: stations are joined exactly if their pieces are
  pub piece_joined : (x y : ℕ) → Station x → Station y → Joined (network m) up x y ↔ Joined (over (network m) piece) up (piece x) (piece y)
  piece_joined x y sx sy = (to_pieces (network m) up piece, (λ j. from_pieces x (piece y) sx j y sy refl))

  -- what is joined to a station's piece is a station's piece
  joined_piece : (q : ℕ) → Joined (over (network m) piece) up (piece (lowest m)) q → (i : ℕ) × Station i × (piece i ≡ q)
  joined_piece q start = (lowest m, lowest_has m good, refl)
  joined_piece q (more {x = a} {y = b} j l) = go l.runs
    where
      k : ℕ
      k = l.number

      go : Runs (over (network m) piece) k a b → (i : ℕ) × Station i × (piece i ≡ b)
      go (inl r) = ((network m).to k, (ends_stations m good k l.below).1, r.1)
      go (inr r) = ((network m).from k, (ends_stations m good k l.below).0, r.1)

  module _ (low : (i : ℕ) → i < 64 → piece i < 64) where
    ends : (k : ℕ) → k < (network m).count → (piece ((network m).from k) < 64) × (piece ((network m).to k) < 64)
    ends k l = (low _ (ends_lt m good k l).0, low _ (ends_lt m good k l).1)

    piece_in : (q : ℕ) → (bit (piece_side m piece up) q ≡ 1) ↔ Joined (over (network m) piece) up (piece (lowest m)) q
    piece_in = side_joined (over (network m) piece) up 64 ends (piece (lowest m)) (low _ (lowest_lt m good))

    piece_lt : piece_side m piece up < 2 ^ 64
    piece_lt = (side_grown (over (network m) piece) up 64 ends (piece (lowest m)) (low _ (lowest_lt m good))).0.low

    -- a station is joined to the lowest exactly if the side over pieces holds its piece
    joined_side : (i : ℕ) → Station i → Joined (network m) up (lowest m) i ↔ (bit (piece_side m piece up) (piece i) ≡ 1)
    joined_side i st =
        let j = piece_joined (lowest m) i (lowest_has m good) st in
        ((λ q. (piece_in (piece i)).1 (j.0 q)), (λ h. j.1 ((piece_in (piece i)).0 h)))

    -- THE LAW of the side: the stations whose piece is joined to that of the lowest are the stations joined to the lowest
    side_same : in_stations m piece (piece_side m piece up) ≡ side m up
    side_same = set_same 64 _ _ (labels_lt test (λ j. j) 64 64 (λ j l. l)) (side_lt m good up) (λ i l. (into i, back i l))
      where
        test : ℕ → Bool
        test i = has (stations m) i && has (piece_side m piece up) (piece i)

        into : (i : ℕ) → bit (labels test (λ j. j) 64) i ≡ 1 → bit (side m up) i ≡ 1
        into i h =
            let w = labels_of test (λ j. j) 64 i h in
            let b = and_inv {a = has (stations m) w.0} w.2 in
            subst (λ (j : ℕ). bit (side m up) j ≡ 1) w.3 (true_has _ _ ((side_has m good up w.0).1 ((joined_side w.0 b.0).1 (true_has _ _ b.1))))

        back : (i : ℕ) → i < 64 → bit (side m up) i ≡ 1 → bit (labels test (λ j. j) 64) i ≡ 1
        back i l h =
            let j = (side_has m good up i).0 (has_true _ i h) in
            let st = joined_station m good up i j in
            labels_in test (λ j. j) 64 i l (and_both st (has_true _ _ ((joined_side i st).0 j)))

    label_in : (i : ℕ) → Station i → bit (labels (has (stations m)) piece 64) (piece i) ≡ 1
    label_in i st = labels_in (has (stations m)) piece 64 i (station_lt m good i st) st

    -- all pieces are joined exactly if all stations are
    pieces_joined : (piece_whole m piece up ≡ true) ↔ AllJoined m up
    pieces_joined = (
      (λ w i st. (joined_side i st).1 (subst (λ (s : ℕ). bit s (piece i) ≡ 1) (sym (eqb-true _ _ w)) (label_in i st))),
      (λ all. eq-eqb _ _ (set_same 64 _ _ piece_lt (labels_lt (has (stations m)) piece 64 64 low) (λ q l. (
        (λ h.
            let w = joined_piece q ((piece_in q).0 h) in
            subst (λ (r : ℕ). bit (labels (has (stations m)) piece 64) r ≡ 1) w.2 (label_in w.0 w.1)),
        (λ h.
            let w = labels_of (has (stations m)) piece 64 q h in
            subst (λ (r : ℕ). bit (piece_side m piece up) r ≡ 1) w.3 ((joined_side w.0 w.2).0 (all w.0 w.2))),
      )))),
    )

    -- THE LAW of the test
    whole_same : piece_whole m piece up ≡ whole m up
    whole_same = bool_iff _ _ (λ e. (whole_joined m good up).1 (pieces_joined.0 e)) (λ e. pieces_joined.1 ((whole_joined m good up).0 e))

module _ (m : RouteBook) (good : well_formed m ≡ true) (piece : ℕ → ℕ) where
  cut_same : HoldTogether m piece → cut_over m piece ≡ cut_or_okay m
  cut_same h =
      first_alike (λ x. not (piece_whole m piece (without m x))) (λ x. not (whole m (without m x)))
      (λ x. Cut x (in_stations m piece (piece_side m piece (without m x)))) (λ x. Cut x (side m (without m x))) Okay (length m.spans) 0
      (λ x a l.
      let t : Together m piece (without m x) = h.each x (omega arith) in
      (ap not (whole_same m good piece (without m x) t h.low), ap (Cut x) (side_same m good piece (without m x) t h.low)))

  -- THEOREM: pieces that hold together with nothing out and with any one span out change nothing in the judgement
  pub same_verdict : HoldTogether m piece → split_over m piece ≡ split_or m
  same_verdict h =
      let w : piece_whole m piece all_up ≡ whole m all_up = whole_same m good piece all_up h.intact h.low in
      let s : in_stations m piece (piece_side m piece all_up) ≡ side m all_up = side_same m good piece all_up h.intact h.low in
      let c : cut_over m piece ≡ cut_or_okay m = cut_same h in
      rw (w, s, c)

  -- what holds together by a set of lightpaths holds together
  by_set : (mine : ℕ → Bool) → HoldBy m piece mine → HoldTogether m piece
  by_set mine h = record {
    low = h.low;
    intact = λ x y sx sy e. more_up mine all_up (λ k u. refl) (h.intact x y sx sy e);
    each = λ o l x y sx sy e. more_up (λ k. mine k && without m o k) (without m o) (λ k u. (and_inv {a = mine k} u).1) (h.each o l x y sx sy e);
  }
    where
      more_up : (up up' : ℕ → Bool) → ((k : ℕ) → up k ≡ true → up' k ≡ true) → {x y : ℕ} → Joined (network m) up x y → Joined (network m) up' x y
      more_up up up' f =
          join_bind (network m) up up' (λ x y l. more start (record { number = l.number; below = l.below; is_up = f l.number l.is_up; runs = l.runs }))

  -- THEOREM: so any set of lightpaths whose pieces each hold together by it may be merged
  pub same_by_set : (mine : ℕ → Bool) → HoldBy m piece mine → split_over m piece ≡ split_or m
  same_by_set mine h = same_verdict (by_set mine h)
