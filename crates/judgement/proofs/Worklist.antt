-- THE SIDE, NODE BY NODE: of a growing set a part has been looked at, and whatever one lightpath leads to from that part is in the set. When the part is
-- the whole set no lightpath leaves it, so it is the side; and each turn looks at a node that was not looked at, so there are no more turns than nodes.
use Prim.Native.Nat.{ℕ, ◌-◌, ◌^◌, ◌<◌}
use mathlib.Core.Path.{◌≡◌, sym, subst}
use mathlib.Core.List.{List}
use mathlib.Core.Logic.{◌⊎◌, inl, inr, ⊎_elim}
use mathlib.Core.Bool.{Bool}
use native.Mathlib.Decide.{ℕ_discrete}
use native.Mathlib.Omega.{arith}
use lib.Bits.{bit_or, bit_xor, or_lt}
use lib.Count.{count_trailing_zeros}
use lib.ListN.{get_or}
use lib.Pow.{pow_pos}
use Rattle.book.specs.Bits.{bit, put}
use Rattle.book.proofs.Bits.{bit_lt, bit-or, bit_of_zero, put_inv, put_lt}
use Rattle.judgement.specs.Network.{Network, Link, Joined, more, side_of}
use Rattle.judgement.specs.Inside.{Leads, size}
use Rattle.judgement.proofs.Sets.{beyond_lt, beyond_in, size_put, size_few}
use Rattle.judgement.proofs.Joins.{Growing, growing_start, side_is}

module _ (W : ℕ) (net : Network) (up : ℕ → Bool) (s : ℕ) where
  -- a growing set r, and the part q that has been looked at
  pub record Working (r q : ℕ) : Type 0 where
    pub growing : Growing net up W s r
    pub low : q < 2 ^ W
    pub within : (i : ℕ) → bit q i ≡ 1 → bit r i ≡ 1
    pub led : (x y : ℕ) → bit q x ≡ 1 → Link net up x y → bit r y ≡ 1

  or_l : (a b i : ℕ) → bit a i ≡ 1 → bit (bit_or a b) i ≡ 1
  or_l a b i h = omega (arith, bit-or a b i, h, bit_lt b i)

  or_r : (a b i : ℕ) → bit b i ≡ 1 → bit (bit_or a b) i ≡ 1
  or_r a b i h = omega (arith, bit-or a b i, h, bit_lt a i)

  or_inv : (a b i : ℕ) → bit (bit_or a b) i ≡ 1 → (bit a i ≡ 1) ⊎ (bit b i ≡ 1)
  or_inv a b i h = elim (ℕ_discrete (bit a i) 1) [ yes e ↦ inl e | no n ↦ inr (omega (arith, h, bit-or a b i, bit_lt a i)) ]

  -- one turn: the lowest node that was not looked at is taken
  module _ {r q : ℕ} (w : Working r q) (other : r ≡ q → ⊥) where
    abbrev i : ℕ
    i = count_trailing_zeros W (bit_xor r q)

    pub next_lt : i < W
    next_lt = beyond_lt W r q w.growing.low w.low w.within other

    in_side_not_seen : (bit r i ≡ 1) × (bit q i ≡ 0)
    in_side_not_seen = beyond_in W r q w.growing.low w.low w.within other

    -- EACH NODE ONCE: what is taken was not taken before, so what is left to take gets less by one
    pub taken_once : W - size W (put q i) < W - size W q
    taken_once = omega (arith, size_put W q i next_lt in_side_not_seen.1, size_few W (put q i))

    pub working_next : {rows : List ℕ} → Leads W net up rows → Working (bit_or r (get_or rows i 0)) (put q i)
    working_next {rows} ls = record {
      growing = record {
        low = or_lt W r (get_or rows i 0) w.growing.low (ls.low i);
        only = λ j h. ⊎_elim (λ a. w.growing.only j a) (λ b. ⊎_elim (λ e. subst (Joined net up s) e at_i) (λ l. more at_i l) (ls.only i j b)) (or_inv r (get_or rows i 0) j h);
        kept = or_l r (get_or rows i 0) s w.growing.kept;
      };
      low = put_lt W q i w.low next_lt;
      within = λ j h. or_l r (get_or rows i 0) j (⊎_elim (λ a. w.within j a) (λ e. subst (λ (x : ℕ). bit r x ≡ 1) (sym e) in_side_not_seen.0) (put_inv q i j h));
      led = λ x y h l. ⊎_elim (λ a. or_l r (get_or rows i 0) y (w.led x y a l)) (λ e. or_r r (get_or rows i 0) y (ls.all i y (subst (λ (z : ℕ). Link net up z y) e l))) (put_inv q i x h);
    }
      where
        at_i : Joined net up s i
        at_i = w.growing.only i in_side_not_seen.0

  module _ (ends : (k : ℕ) → k < net.count → (net.from k < W) × (net.to k < W)) where
    pub working_start : s < W → Working (2 ^ s) 0
    working_start l = record {
      growing = growing_start net up W ends s l;
      low = pow_pos W;
      within = λ i h. absurd (omega (arith, h, bit_of_zero i));
      led = λ x y h k. absurd (omega (arith, h, bit_of_zero x));
    }

    -- all has been looked at
    pub working_end : {r q : ℕ} → s < W → Working r q → r ≡ q → r ≡ side_of net up W s
    working_end {r} {q} l w e = side_is net up W ends s r l w.growing (λ x y k h. w.led x y (subst (λ (z : ℕ). bit z x ≡ 1) e h) k)
