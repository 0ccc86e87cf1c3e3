-- A RING of pieces, no two of whose lightpaths ride one span, may be merged: with one span out at most one of its lightpaths is out, and all that it touches is
-- joined round the other way. So pieces that hold together still do when a ring of them is made one.
use Prim.Native.Nat.{ℕ, suc, ◌<◌, ◌≤◌}
use mathlib.Core.Path.{◌≡◌, refl, sym, ap, ◌∙◌, subst}
use mathlib.Core.List.{List, [], ◌∷◌}
use mathlib.Core.Logic.{◌⊎◌, inl, inr, ⊎_elim}
use mathlib.Core.Bool.{Bool, true, false, cond, not, false≢true}
use native.Mathlib.Omega.{arith}
use lib.ListN.{length}
use borrow.Author.Tests.{eqb-true}
use Rattle.book.specs.Book.{RouteBook, well_formed}
use Rattle.book.specs.Bits.{has}
use Rattle.book.proofs.Bounds.{station_lt}
use Rattle.judgement.specs.Network.{Network, Joined, start, more}
use Rattle.judgement.specs.Judgement.{rides, network, without, all_up, stations}
use Rattle.judgement.specs.Meaning.{Least}
use Rattle.judgement.specs.Pieces.{over, Together, HoldTogether}
use Rattle.judgement.specs.Ways.{Runs, Way, here, hop}
use Rattle.judgement.specs.Contraction.{lost, touches, lowest_label, merged}
use Rattle.judgement.proofs.Tests.{or_inv}
use Rattle.judgement.proofs.Chains.{join_trans, join_sym}
use Rattle.judgement.proofs.Lowest.{Passes, lowest_found}
use Rattle.judgement.proofs.Pieces.{piece_joined}

-- an end of the first lightpath, or of a later one
pub touch_inv : (net : Network) (k : ℕ) (ks : List ℕ) (q : ℕ) → touches net (k ∷ ks) q ≡ true
    → ((net.from k ≡ q) ⊎ (net.to k ≡ q)) ⊎ (touches net ks q ≡ true)
unfolding touches
touch_inv net k ks q h = ⊎_elim (λ e. inl (⊎_elim (λ a. inl (eqb-true _ _ a)) (λ b. inr (eqb-true _ _ b)) (or_inv _ _ e))) (λ r. inr r) (or_inv _ _ h)

run_end : (net : Network) (k x z q : ℕ) → Runs net k x z → (net.from k ≡ q) ⊎ (net.to k ≡ q) → (x ≡ q) ⊎ (z ≡ q)
run_end net k x z q (inl r) (inl e) = inl (sym r.0 ∙ e)
run_end net k x z q (inl r) (inr e) = inr (sym r.1 ∙ e)
run_end net k x z q (inr r) (inl e) = inr (sym r.1 ∙ e)
run_end net k x z q (inr r) (inr e) = inl (sym r.0 ∙ e)

module _ (net : Network) (free out : ℕ → Bool) where
  abbrev up : ℕ → Bool
  up k = not (out k)

  lost_up : (k : ℕ) (ks : List ℕ) → out k ≡ false → lost out (k ∷ ks) ≡ lost out ks
  unfolding lost
  lost_up k ks e = rw e

  lost_out : (k : ℕ) (ks : List ℕ) → out k ≡ true → lost out (k ∷ ks) ≡ suc (lost out ks)
  unfolding lost
  lost_out k ks e = rw e

  one : {x z k : ℕ} → k < net.count → out k ≡ false → Runs net k x z → Joined net up x z
  one {x} {z} {k} l e r = more start (record { number = k; below = l; is_up = ap not e; runs = r })

  -- a way of which nothing is out joins its ends
  way_joined : {x y : ℕ} {ks : List ℕ} → Way net free x ks y → lost out ks ≡ 0 → Joined net up x y
  way_joined here e = start
  way_joined (hop {x = x} {z = z} {y = y} {k = k} {ks = ks} l f r w) e = go (λ q. way_joined w q) (out k) refl
    where
      go : (lost out ks ≡ 0 → Joined net up z y) → (b : Bool) → out k ≡ b → Joined net up x y
      go ih true f = absurd (omega (arith, lost_out k ks f))
      go ih false f = join_trans net up (one l f r) (ih (omega (arith, lost_up k ks f)))

  -- of a way of which at most one lightpath is out, all that it touches is joined to one end or to the other
  way_ends : {x y : ℕ} {ks : List ℕ} → Way net free x ks y → lost out ks ≤ 1 → (q : ℕ) → touches net ks q ≡ true → Joined net up x q ⊎ Joined net up y q
  unfolding touches
  way_ends here e q h = absurd (false≢true h)
  way_ends (hop {x = x} {z = z} {y = y} {k = k} {ks = ks} l f r w) e q h = go (λ a b. way_ends w a q b) (out k) refl (touch_inv net k ks q h)
    where
      Either : ℕ → Type 0
      Either a = Joined net up a q ⊎ Joined net up y q

      go : (lost out ks ≤ 1 → touches net ks q ≡ true → Either z) → (b : Bool) → out k ≡ b
          → ((net.from k ≡ q) ⊎ (net.to k ≡ q)) ⊎ (touches net ks q ≡ true) → Either x
      go ih true f t = ⊎_elim
          (λ end. ⊎_elim (λ a. inl (subst (Joined net up x) a start)) (λ a. inr (subst (Joined net up y) a to_z)) (run_end net k x z q r end))
          (λ rest. ⊎_elim (λ j. inr (join_trans net up to_z j)) (λ j. inr j) (ih (omega (arith, lost_out k ks f)) rest))
          t
        where
          to_z : Joined net up y z
          to_z = join_sym net up (way_joined w (omega (arith, lost_out k ks f)))
      go ih false f t = ⊎_elim
          (λ end. ⊎_elim (λ a. inl (subst (Joined net up x) a start)) (λ a. inl (subst (Joined net up x) a (one l f r))) (run_end net k x z q r end))
          (λ rest. ⊎_elim (λ j. inl (join_trans net up (one l f r) j)) (λ j. inr j) (ih (omega (arith, lost_up k ks f)) rest))
          t

  -- THE LAW of a ring: what it touches is joined
  ring_joined : {x : ℕ} {ks : List ℕ} → Way net free x ks x → lost out ks ≤ 1
      → (q r : ℕ) → touches net ks q ≡ true → touches net ks r ≡ true → Joined net up q r
  ring_joined {x} {ks} w e q r a b = join_trans net up (join_sym net up (base q a)) (base r b)
    where
      base : (q : ℕ) → touches net ks q ≡ true → Joined net up x q
      base q h = ⊎_elim (λ j. j) (λ j. j) (way_ends w e q h)

lost_none : (ks : List ℕ) → lost (λ k. false) ks ≡ 0
unfolding lost
lost_none [] = refl
lost_none (k ∷ ks) = lost_none ks

-- a way over the pieces that ends where it starts, of which no span carries two
pub record Ring (m : RouteBook) (piece : ℕ → ℕ) (ks : List ℕ) : Type 0 where
  pub base : ℕ
  pub closed : Way (over (network m) piece) all_up base ks base
  pub spared : (x : ℕ) → x < length m.spans → lost (rides m x) ks ≤ 1

-- labels are numbers of nodes
module _ (m : RouteBook) (piece : ℕ → ℕ) (low : (i : ℕ) → i < 64 → piece i < 64) (ks : List ℕ) where
  abbrev touched : ℕ → Bool
  touched = touches (over (network m) piece) ks

  -- the lowest label of a ring that touches the piece of a node
  pub lowest-label : (i : ℕ) → i < 64 → touches (over (network m) piece) ks (piece i) ≡ true
      → Least (Passes (touches (over (network m) piece) ks) 64) 64 (lowest_label m piece ks)
  unfolding lowest_label
  lowest-label i l e = lowest_found touched 64 (piece i) (low i l) e

  merged_low : (i : ℕ) → i < 64 → merged m piece ks i < 64
  unfolding merged
  merged_low i l = go (touched (piece i)) refl
    where
      go : (b : Bool) → touches (over (network m) piece) ks (piece i) ≡ b → cond b (lowest_label m piece ks) (piece i) < 64
      go true e = (lowest-label i l e).below
      go false e = low i l

  module _ (good : well_formed m ≡ true) (ring : Ring m piece ks) where
    -- one state
    merged_together : (out : ℕ → Bool) → lost out ks ≤ 1 → Together m piece (λ k. not (out k)) → Together m (merged m piece ks) (λ k. not (out k))
    unfolding merged
    merged_together out e whole x y sx sy = go (touched (piece x)) refl (touched (piece y)) refl
      where
        label : (i : ℕ) → has (stations m) i ≡ true → touches (over (network m) piece) ks (piece i) ≡ true
            → touches (over (network m) piece) ks (lowest_label m piece ks) ≡ true
        label i st f = (lowest-label i (station_lt m good i st) f).holds

        go : (a : Bool) → touches (over (network m) piece) ks (piece x) ≡ a → (b : Bool) → touches (over (network m) piece) ks (piece y) ≡ b
            → cond a (lowest_label m piece ks) (piece x) ≡ cond b (lowest_label m piece ks) (piece y) → Joined (network m) (λ k. not (out k)) x y
        go true f true g h =
            (piece_joined m good piece (λ k. not (out k)) whole x y sx sy).1
            (ring_joined (over (network m) piece) all_up out ring.closed e (piece x) (piece y) f g)
        go true f false g h = absurd (false≢true (sym g ∙ ap touched (sym h) ∙ label x sx f))
        go false f true g h = absurd (false≢true (sym f ∙ ap touched h ∙ label y sy g))
        go false f false g h = whole x y sx sy h

-- THE LAW of a merge: pieces that hold together still do when a ring of them is made one
pub merged_hold : (m : RouteBook) → well_formed m ≡ true → (piece : ℕ → ℕ) (ks : List ℕ) → Ring m piece ks
    → HoldTogether m piece → HoldTogether m (merged m piece ks)
merged_hold m good piece ks ring h = record {
  low = merged_low m piece h.low ks;
  intact = merged_together m piece h.low ks good ring (λ k. false) (omega (arith, lost_none ks)) h.intact;
  each = λ x l. merged_together m piece h.low ks good ring (rides m x) (ring.spared x l) (h.each x l);
}

-- single stations hold together
pub singles_hold : (m : RouteBook) → HoldTogether m (λ i. i)
singles_hold m = record {
  low = λ i l. l;
  intact = λ x y sx sy e. subst (Joined (network m) all_up x) e start;
  each = λ o l x y sx sy e. subst (Joined (network m) (without m o) x) e start;
}
