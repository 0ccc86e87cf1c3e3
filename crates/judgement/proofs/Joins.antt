-- THE SIDE of a node is the set of the nodes that are joined to it: a sweep adds only what is joined, and a set that no sweep enlarges holds, with one end
-- of a lightpath that is up, the other. Whatever has grown so far is the one side, however it was grown.
use Prim.Native.Nat.{ℕ, zero, suc, ◌+◌, ◌^◌, ◌<◌, ◌≤◌}
use mathlib.Core.Path.{◌≡◌, refl, sym, ap, ◌∙◌, subst}
use mathlib.Core.Logic.{◌⊎◌, inl, inr, ⊎_elim, ◌↔◌}
use mathlib.Core.Bool.{Bool, true, false, cond, ◌&&◌, ◌||◌}
use native.Mathlib.Nat.{le_refl, le_trans, le_antisymm}
use native.Mathlib.Omega.{arith}
use native.Mathlib.Decide.{ℕ_discrete}
use lib.Dec.{eqb}
use lib.Pow.{pow-lt}
use borrow.Author.Tests.{eqb-true, eqb-false}
use Rattle.book.specs.Bits.{has, bit, put}
use Rattle.book.proofs.Bits.{bit_iff, bit_ext, has_true, true_has, bit_one, bit_other, put_same, put_keeps, put_inv, put_lt, put_le}
use Rattle.book.proofs.Tests.{and_inv}
use Rattle.judgement.specs.Network.{Network, Link, Joined, start, more, grown, swept, settled, side_of}
use Rattle.judgement.proofs.Tests.{or_l, or_r, or_inv}

module _ (net : Network) (up : ℕ → Bool) where
  grow_le : (k m : ℕ) → m ≤ grown net up k m
  unfolding grown
  grow_le k m = go (up k && (has m (net.from k) || has m (net.to k)))
    where
      go : (t : Bool) → m ≤ cond t (put (put m (net.from k)) (net.to k)) m
      go true = le_trans (put_le m (net.from k)) (put_le _ _)
      go false = le_refl m

  sweep_le : (k m : ℕ) → m ≤ swept net up k m
  unfolding swept
  sweep_le zero m = le_refl m
  sweep_le (suc k) m = le_trans (sweep_le k m) (grow_le k _)

  -- a set that a whole sweep leaves alone is left alone by each part of it
  part_same : (n m : ℕ) → swept net up n m ≡ m → (k : ℕ) → k < n → grown net up k m ≡ m
  unfolding swept
  part_same zero m e k l = absurd (omega arith)
  part_same (suc n) m e k l =
      let below : swept net up n m ≡ m = le_antisymm (le_trans (grow_le n _) (omega (arith, e))) (sweep_le n m) in
      go below (part_same n m below) (ℕ_discrete k n)
    where
      go : swept net up n m ≡ m → ((j : ℕ) → j < n → grown net up j m ≡ m) → Dec (k ≡ n) → grown net up k m ≡ m
      go b ih (yes y) = ap (λ (j : ℕ). grown net up j m) y ∙ ap (grown net up n) (sym b) ∙ e
      go b ih (no z) = ih k (omega arith)

  -- so it holds, with one end of a link that is up, the other
  abbrev pub Closed : ℕ → Type 0
  Closed m = (x y : ℕ) → Link net up x y → bit m x ≡ 1 → bit m y ≡ 1

  same_closed : (m : ℕ) → swept net up net.count m ≡ m → Closed m
  unfolding grown
  same_closed m e x y l hx = go l.runs
    where
      k : ℕ
      k = l.number

      a : ℕ
      a = net.from k

      b : ℕ
      b = net.to k

      both : (has m a || has m b) ≡ true → put (put m a) b ≡ m
      both t = sym (ap (λ (q : Bool). cond q (put (put m a) b) m) (ap (λ (q : Bool). q && (has m a || has m b)) l.is_up ∙ t)) ∙ part_same net.count m e k l.below

      go : ((a ≡ x) × (b ≡ y)) ⊎ ((b ≡ x) × (a ≡ y)) → bit m y ≡ 1
      go (inl p) = ap (bit m) (sym p.1) ∙ ap (λ (q : ℕ). bit q b) (sym (both (or_l (has m b) (has_true m a (ap (bit m) p.0 ∙ hx))))) ∙ put_same _ b
      go (inr p) = ap (bit m) (sym p.1) ∙ ap (λ (q : ℕ). bit q a) (sym (both (or_r (has m a) (has_true m b (ap (bit m) p.0 ∙ hx))))) ∙ put_keeps _ b a (put_same m a)

  -- a closed set with s holds all that is joined to s
  joined_in : (m s : ℕ) → Closed m → bit m s ≡ 1 → (i : ℕ) → Joined net up s i → bit m i ≡ 1
  joined_in m s cl hs i start = hs
  joined_in m s cl hs i (more {x} {y} j l) = cl x y l (joined_in m s cl hs x j)

  -- a sweep adds only what is joined
  abbrev Only : ℕ → ℕ → Type 0
  Only s m = (i : ℕ) → bit m i ≡ 1 → Joined net up s i

  grow_only : (s k m : ℕ) → k < net.count → Only s m → Only s (grown net up k m)
  unfolding grown
  grow_only s k m l o i = go (up k && (has m a || has m b)) refl
    where
      a : ℕ
      a = net.from k

      b : ℕ
      b = net.to k

      ends : up k ≡ true → (has m a ≡ true) ⊎ (has m b ≡ true) → Joined net up s a × Joined net up s b
      ends u (inl t) = let j = o a (true_has m a t) in (j, more j (record { number = k; below = l; is_up = u; runs = inl (refl, refl) }))
      ends u (inr t) = let j = o b (true_has m b t) in (more j (record { number = k; below = l; is_up = u; runs = inr (refl, refl) }), j)

      out : Joined net up s a × Joined net up s b → (bit (put m a) i ≡ 1) ⊎ (i ≡ b) → Joined net up s i
      out j (inl h) = ⊎_elim (λ g. o i g) (λ e. subst (Joined net up s) (sym e) j.0) (put_inv m a i h)
      out j (inr e) = subst (Joined net up s) (sym e) j.1

      go : (t : Bool) → (up k && (has m a || has m b)) ≡ t → bit (cond t (put (put m a) b) m) i ≡ 1 → Joined net up s i
      go true e h = let u = and_inv {a = up k} e in out (ends u.0 (or_inv _ _ u.1)) (put_inv (put m a) b i h)
      go false e h = o i h

  sweep_only : (s n m : ℕ) → n ≤ net.count → Only s m → Only s (swept net up n m)
  unfolding swept
  sweep_only s zero m l o = o
  sweep_only s (suc n) m l o = grow_only s n _ l (sweep_only s n m (omega arith) o)

  sweep_kept : (n m i : ℕ) → bit m i ≡ 1 → bit (swept net up n m) i ≡ 1
  unfolding swept grown
  sweep_kept zero m i b = b
  sweep_kept (suc n) m i b = go (up n && (has x (net.from n) || has x (net.to n))) (sweep_kept n m i b)
    where
      x : ℕ
      x = swept net up n m

      go : (t : Bool) → bit x i ≡ 1 → bit (cond t (put (put x (net.from n)) (net.to n)) x) i ≡ 1
      go true h = put_keeps _ _ i (put_keeps x (net.from n) i h)
      go false h = h

  -- what holds of a set that grows from s: it is below the width, holds s, and only what is joined to s
  pub record Growing (W s r : ℕ) : Type 0 where
    pub low : r < 2 ^ W
    pub only : Only s r
    pub kept : bit r s ≡ 1

  -- the numbers below the width
  module _ (W : ℕ) (ends : (k : ℕ) → k < net.count → (net.from k < W) × (net.to k < W)) where
    grow_lt : (k m : ℕ) → k < net.count → m < 2 ^ W → grown net up k m < 2 ^ W
    unfolding grown
    grow_lt k m l h = go (up k && (has m (net.from k) || has m (net.to k)))
      where
        go : (t : Bool) → cond t (put (put m (net.from k)) (net.to k)) m < 2 ^ W
        go true = put_lt W _ _ (put_lt W m _ h (ends k l).0) (ends k l).1
        go false = h

    sweep_lt : (n m : ℕ) → n ≤ net.count → m < 2 ^ W → swept net up n m < 2 ^ W
    unfolding swept
    sweep_lt zero m l h = h
    sweep_lt (suc n) m l h = grow_lt n _ l (sweep_lt n m (omega arith) h)

    pub growing_start : (s : ℕ) → s < W → Growing W s (2 ^ s)
    growing_start s l = record {
      low = pow-lt l;
      only = λ i h. elim (ℕ_discrete i s) [ yes e ↦ subst (Joined net up s) (sym e) start | no n ↦ absurd (omega (arith, h, bit_other s i n)) ];
      kept = bit_one s;
    }

    growing_sweep : (s m : ℕ) → Growing W s m → Growing W s (swept net up net.count m)
    growing_sweep s m g = record {
      low = sweep_lt net.count m (le_refl _) g.low;
      only = sweep_only s net.count m (le_refl _) g.only;
      kept = sweep_kept net.count m s g.kept;
    }

    -- each sweep that adds makes the number larger
    sweep_more : (m : ℕ) → (swept net up net.count m ≡ m → ⊥) → m < swept net up net.count m
    sweep_more m ne = omega (arith, sweep_le net.count m)

    -- a closed set that has grown holds just what is joined to s; there is one such set
    grown_joined : (s r : ℕ) → Growing W s r → Closed r → (i : ℕ) → (bit r i ≡ 1) ↔ Joined net up s i
    grown_joined s r g cl i = (g.only i, joined_in r s cl g.kept i)

    grown_once : (s r r' : ℕ) → Growing W s r → Closed r → Growing W s r' → Closed r' → r ≡ r'
    grown_once s r r' g cl g' cl' =
        bit_ext W r r' g.low g'.low (λ i l.
        let u = grown_joined s r g cl i in
        let v = grown_joined s r' g' cl' i in
        bit_iff r r' i (λ h. v.1 (u.0 h)) (λ h. u.1 (v.0 h)))

    settling : (s d m : ℕ) → 2 ^ W ≤ d + m → Growing W s m → Growing W s (settled net up d m) × Closed (settled net up d m)
    unfolding settled
    settling s zero m l g = absurd (omega (arith, g.low))
    settling s (suc d) m l g =
        go (λ l'. settling s d (swept net up net.count m) l' (growing_sweep s m g)) (eqb (swept net up net.count m) m) refl
      where
        Done : ℕ → Type 0
        Done r = Growing W s r × Closed r

        go : (2 ^ W ≤ d + swept net up net.count m → Done (settled net up d (swept net up net.count m))) → (t : Bool)
            → eqb (swept net up net.count m) m ≡ t → Done (cond t m (settled net up d (swept net up net.count m)))
        go ih true e = (g, same_closed m (eqb-true _ _ e))
        go ih false e = ih (omega (arith, sweep_more m (eqb-false _ _ e)))

    -- THE LAW: the computed side holds just the nodes that are joined to s
    pub side_grown : (s : ℕ) → s < W → Growing W s (side_of net up W s) × Closed (side_of net up W s)
    unfolding side_of
    side_grown s l = settling s (2 ^ W) (2 ^ s) (omega arith) (growing_start s l)

    pub side_joined : (s : ℕ) → s < W → (i : ℕ) → (bit (side_of net up W s) i ≡ 1) ↔ Joined net up s i
    side_joined s l = let g = side_grown s l in grown_joined s _ g.0 g.1

    -- whatever has grown is in it
    pub in_side : (s r i : ℕ) → s < W → Growing W s r → has r i ≡ true → has (side_of net up W s) i ≡ true
    in_side s r i l g h = has_true _ i ((side_joined s l i).1 (g.only i (true_has r i h)))

    -- and if it is closed it is that side
    pub side_is : (s r : ℕ) → s < W → Growing W s r → Closed r → r ≡ side_of net up W s
    side_is s r l g cl = let h = side_grown s l in grown_once s r _ g cl h.0 h.1
