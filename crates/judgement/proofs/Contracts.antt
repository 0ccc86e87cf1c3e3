-- THE SECOND ENGINE'S VERDICT is that of the judgement: its pieces are made from single stations by merges, each of which leaves them holding together.
-- Its loop ends with a pass that merges nothing, since each merge makes the sum of the labels less.
use Prim.Native.Nat.{ℕ, zero, suc, ◌+◌, ◌*◌, ◌<◌}
use mathlib.Core.Path.{◌≡◌, refl, sym, ap, subst}
use mathlib.Core.Bool.{Bool, true, false, cond}
use native.Mathlib.Decide.{dec_lt}
use native.Mathlib.Omega.{arith}
use lib.Dec.{ltb}
use lib.ListN.{length}
use borrow.Author.Tests.{lt-ltb, le-ltb}
use Rattle.book.specs.Book.{RouteBook, well_formed}
use Rattle.judgement.specs.Judgement.{sum, load, limit, first_of, verdict}
use Rattle.judgement.specs.Meaning.{Least}
use Rattle.judgement.specs.Pieces.{HoldTogether}
use Rattle.judgement.specs.Contraction.{ring_of, merges, taken, merged, contract, merges_in, pieces, verdict_over}
use Rattle.judgement.specs.declared.Verdict.{Verdict}
use Rattle.judgement.specs.declared.Verdict.TheVariants.{Over}
use Rattle.judgement.proofs.Sums.{sum_numbers}
use Rattle.judgement.proofs.Lowest.{lowest_passes, lowest_none}
use Rattle.judgement.proofs.Pieces.{same_verdict}
use Rattle.judgement.proofs.Rings.{merged_hold, singles_hold}
use Rattle.judgement.proofs.Merges.{merges_inv, ring_is, merged_less}

-- K12: the lowest lightpath that merges
abbrev pub LeastMerges : RouteBook → (ℕ → ℕ) → ℕ → Type 0
LeastMerges m piece k = Least (λ j. merges m piece j ≡ true) (length m.lightpaths) k

-- K7, K12 to K14: the labels that n merges make: single stations, and then each time the ring of the lowest lightpath that merges
pub data Made (m : RouteBook) : ℕ → (ℕ → ℕ) → Type 0 where
  singles : Made m 0 (λ i. i)
  next : {n : ℕ} {piece : ℕ → ℕ} → Made m n piece → (k : ℕ) → LeastMerges m piece k → Made m (suc n) (merged m piece (ring_of m piece k))

-- the lightpath that is taken, or that there is none
pub taken_is : (m : RouteBook) (piece : ℕ → ℕ) → taken m piece < length m.lightpaths → LeastMerges m piece (taken m piece)
unfolding taken
taken_is m piece l = lowest_passes (merges m piece) (length m.lightpaths) l

taken_none : (m : RouteBook) (piece : ℕ → ℕ) → (taken m piece < length m.lightpaths → ⊥) → (k : ℕ) → k < length m.lightpaths → merges m piece k ≡ false
unfolding taken
taken_none m piece h = lowest_none (merges m piece) (length m.lightpaths) h

-- one turn of the loop: a merge more, or the end
module _ (m : RouteBook) (piece : ℕ → ℕ) where
  -- the labels after the merge of the lightpath that is taken
  abbrev pub after : ℕ → ℕ
  after = merged m piece (ring_of m piece (taken m piece))

  abbrev Takes : Type 0
  Takes = taken m piece < length m.lightpaths

  pub contract_next : (f : ℕ) → Takes → contract m (suc f) piece ≡ contract m f after
  unfolding contract
  contract_next f l = ap (λ (b : Bool). cond b (contract m f after) piece) (lt-ltb (taken m piece) (length m.lightpaths) l)

  pub merges_next : (f : ℕ) → Takes → merges_in m (suc f) piece ≡ suc (merges_in m f after)
  unfolding merges_in
  merges_next f l = ap (λ (b : Bool). cond b (suc (merges_in m f after)) 0) (lt-ltb (taken m piece) (length m.lightpaths) l)

  ends : (Takes → ⊥) → ltb (taken m piece) (length m.lightpaths) ≡ false
  ends n = le-ltb (taken m piece) (length m.lightpaths) (omega (arith, n))

  pub contract_end : (f : ℕ) → (Takes → ⊥) → contract m f piece ≡ piece
  unfolding contract
  contract_end zero n = refl
  contract_end (suc f) n = ap (λ (b : Bool). cond b (contract m f after) piece) (ends n)

  pub merges_end : (f : ℕ) → (Takes → ⊥) → merges_in m f piece ≡ 0
  unfolding merges_in
  merges_end zero n = refl
  merges_end (suc f) n = ap (λ (b : Bool). cond b (suc (merges_in m f after)) 0) (ends n)

module _ (m : RouteBook) (good : well_formed m ≡ true) where
  -- THE INVARIANT of the loop
  pub made_hold : {n : ℕ} {piece : ℕ → ℕ} → Made m n piece → HoldTogether m piece
  made_hold singles = singles_hold m
  made_hold (next {piece = before} a k t) =
      let h : HoldTogether m before = made_hold a in
      merged_hold m good before (ring_of m before k) (ring_is m good before h.low k t.below (merges_inv m before k t.holds)) h

  contract_made : (f : ℕ) {n : ℕ} (piece : ℕ → ℕ) → Made m n piece → Made m (n + merges_in m f piece) (contract m f piece)
  unfolding contract merges_in
  contract_made zero piece a = subst (λ (c : ℕ). Made m c piece) (omega arith) a
  contract_made (suc f) {n} piece a =
      turn (λ l. contract_made f (after m piece) (next a (taken m piece) (taken_is m piece l))) (dec_lt (taken m piece) (length m.lightpaths))
    where
      turn : (Takes m piece → Made m (suc n + merges_in m f (after m piece)) (contract m f (after m piece))) → Dec (Takes m piece)
          → Made m (n + merges_in m (suc f) piece) (contract m (suc f) piece)
      turn ih (yes l) =
          subst (Made m (n + merges_in m (suc f) piece)) (sym (contract_next m piece f l))
          (subst (λ (c : ℕ). Made m c (contract m f (after m piece))) (omega (arith, merges_next m piece f l)) (ih l))
      turn ih (no q) =
          subst (Made m (n + merges_in m (suc f) piece)) (sym (contract_end m piece (suc f) q))
          (subst (λ (c : ℕ). Made m c piece) (omega (arith, merges_end m piece (suc f) q)) a)

  -- each merge makes the sum of the labels less
  lighter : {n : ℕ} {piece : ℕ → ℕ} → Made m n piece → (k : ℕ) → LeastMerges m piece k → sum (merged m piece (ring_of m piece k)) 64 < sum piece 64
  lighter {piece = piece} a k t = merged_less m good piece k t.below (merges_inv m piece k t.holds)

  abbrev pub Done : (ℕ → ℕ) → Type 0
  Done piece = (k : ℕ) → k < length m.lightpaths → merges m piece k ≡ false

  contract_done : (f : ℕ) {n : ℕ} (piece : ℕ → ℕ) → Made m n piece → sum piece 64 < f → Done (contract m f piece)
  contract_done zero piece a l = absurd (omega arith)
  contract_done (suc f) piece a l = turn
      (λ q.
      let t : LeastMerges m piece (taken m piece) = taken_is m piece q in
      contract_done f (after m piece) (next a (taken m piece) t) (omega (arith, lighter a (taken m piece) t)))
      (dec_lt (taken m piece) (length m.lightpaths))
    where
      turn : (Takes m piece → Done (contract m f (after m piece))) → Dec (Takes m piece) → Done (contract m (suc f) piece)
      turn ih (yes q) = subst Done (sym (contract_next m piece f q)) (ih q)
      turn ih (no q) = subst Done (sym (contract_end m piece (suc f) q)) (taken_none m piece q)

  -- THE LAW of the pieces: merges make them, as many as are counted
  pub pieces_made : Made m (merges_in m (64 * 64) (λ i. i)) (pieces m)
  pieces_made = subst (λ (c : ℕ). Made m c (pieces m)) (omega arith) (contract_made (64 * 64) (λ i. i) singles)

  -- and no lightpath merges any more
  pub pieces_done : Done (pieces m)
  pieces_done = contract_done (64 * 64) (λ i. i) singles (omega (arith, sum_numbers 64))

  pub pieces_hold : HoldTogether m (pieces m)
  pieces_hold = made_hold pieces_made

  -- THEOREM: the second engine's verdict is that of the judgement
  pub contracted_same : verdict_over m ≡ verdict m
  contracted_same =
      ap (λ (r : Verdict). first_of (λ x. ltb (limit m x) (load m x)) (λ x. Over x (load m x) (limit m x)) r (length m.spans) 0)
      (same_verdict m good (pieces m) pieces_hold)
