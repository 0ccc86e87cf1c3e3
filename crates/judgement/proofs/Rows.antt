-- ROWS OF SETS: when both ends of a lightpath are put into the row of each, the row of a node has just the ends of those lightpaths that end at it.
-- So the rows lead wherever one lightpath does, and nowhere else.
use Prim.Native.Nat.{ℕ, ◌+◌, ◌^◌, ◌<◌}
use mathlib.Core.Path.{◌≡◌, refl, sym, ap, ◌∙◌}
use mathlib.Core.List.{List}
use mathlib.Core.Logic.{◌⊎◌, inl, inr, ⊎_elim}
use mathlib.Core.Bool.{Bool, true, false, false≢true}
use native.Mathlib.Decide.{ℕ_discrete, dec_lt}
use native.Mathlib.Omega.{arith}
use lib.ListN.{length, get_or, replicate, length-set, length-replicate, get_or-replicate, get_or-eq_default}
use lib.Pow.{pow_pos}
use lib.Seq.{get_or-set_same, get_or-set_other}
use Rattle.book.specs.Bits.{bit, put}
use Rattle.book.proofs.Bits.{bit_of_zero, put_same, put_keeps, put_inv, put_lt}
use Rattle.judgement.specs.Network.{Link}
use Rattle.judgement.specs.Inside.{net_of, ends_into, noted, Leads}

-- one row takes two numbers more
module _ (a b x : ℕ) (rows : List ℕ) (l : x < length rows) where
  abbrev both : ℕ
  both = put (put (get_or rows x 0) a) b

  ends_here : get_or (ends_into a b x rows) x 0 ≡ both
  ends_here = get_or-set_same rows x both 0 l

  ends_other : (z : ℕ) → (z ≡ x → ⊥) → get_or (ends_into a b x rows) z 0 ≡ get_or rows z 0
  ends_other z n = get_or-set_other rows x z both 0 n

  ends_has : (bit (get_or (ends_into a b x rows) x 0) a ≡ 1) × (bit (get_or (ends_into a b x rows) x 0) b ≡ 1)
  ends_has = rw ends_here (put_keeps (put (get_or rows x 0) a) b a (put_same (get_or rows x 0) a), put_same (put (get_or rows x 0) a) b)

  ends_kept : (z y : ℕ) → bit (get_or rows z 0) y ≡ 1 → bit (get_or (ends_into a b x rows) z 0) y ≡ 1
  ends_kept z y h = go (ℕ_discrete z x)
    where
      go : Dec (z ≡ x) → bit (get_or (ends_into a b x rows) z 0) y ≡ 1
      go (yes e) = rw (e, ends_here) (put_keeps (put (get_or rows x 0) a) b y (put_keeps (get_or rows x 0) a y (rw e at h)))
      go (no n) = ap (λ (m : ℕ). bit m y) (ends_other z n) ∙ h

  ends_inv : (z y : ℕ) → bit (get_or (ends_into a b x rows) z 0) y ≡ 1 → (bit (get_or rows z 0) y ≡ 1) ⊎ ((z ≡ x) × ((y ≡ a) ⊎ (y ≡ b)))
  ends_inv z y h = go (ℕ_discrete z x)
    where
      Out : Type 0
      Out = (bit (get_or rows z 0) y ≡ 1) ⊎ ((z ≡ x) × ((y ≡ a) ⊎ (y ≡ b)))

      go : Dec (z ≡ x) → Out
      go (yes e) =
          ⊎_elim
          (λ p. ⊎_elim (λ q. inl (ap (λ (m : ℕ). bit (get_or rows m 0) y) e ∙ q)) (λ q. inr (e, inl q)) (put_inv (get_or rows x 0) a y p))
          (λ p. inr (e, inr p))
          (put_inv (put (get_or rows x 0) a) b y (ap (λ (m : ℕ). bit m y) (sym (ap (λ (m : ℕ). get_or (ends_into a b x rows) m 0) e ∙ ends_here)) ∙ h))
      go (no n) = inl (ap (λ (m : ℕ). bit m y) (sym (ends_other z n)) ∙ h)

  ends_low : (W : ℕ) → a < W → b < W → ((z : ℕ) → get_or rows z 0 < 2 ^ W) → (z : ℕ) → get_or (ends_into a b x rows) z 0 < 2 ^ W
  ends_low W p q low z = go (ℕ_discrete z x)
    where
      go : Dec (z ≡ x) → get_or (ends_into a b x rows) z 0 < 2 ^ W
      go (yes e) = rw (e, ends_here) (put_lt W (put (get_or rows x 0) a) b (put_lt W (get_or rows x 0) a (low x) p) q)
      go (no n) = rw (ends_other z n) (low z)

module _ (W : ℕ) (from to : List ℕ) (up : ℕ → Bool) where
  nought : (x : ℕ) → get_or {A = ℕ} (replicate W 0) x 0 ≡ 0
  nought x = go (dec_lt x W)
    where
      go : Dec (x < W) → get_or {A = ℕ} (replicate W 0) x 0 ≡ 0
      go (yes l) = get_or-replicate W x 0 0 l
      go (no n) = get_or-eq_default {A = ℕ} (replicate W 0) 0 {n = x} (omega (arith, length-replicate {A = ℕ} W 0))

  pub leads_none : Leads W (net_of 0 from to) up (replicate W 0)
  leads_none = record {
    long = length-replicate {A = ℕ} W 0;
    low = λ x. rw (nought x) (pow_pos W);
    only = λ x y h. absurd (omega (arith, h, ap (λ (m : ℕ). bit m y) (nought x), bit_of_zero y));
    all = λ x y k. absurd (omega (arith, k.below));
  }

  module _ (k : ℕ) {rows : List ℕ} (ls : Leads W (net_of k from to) up rows) (la : get_or from k 0 < W) (lb : get_or to k 0 < W) where
    abbrev a : ℕ
    a = get_or from k 0

    abbrev b : ℕ
    b = get_or to k 0

    later : {x y : ℕ} → Link (net_of k from to) up x y → Link (net_of (k + 1) from to) up x y
    later l = record { number = l.number; below = omega (arith, l.below); is_up = l.is_up; runs = l.runs }

    -- a link of the first k + 1 lightpaths is one of the first k, or it is lightpath k
    sooner : {x y : ℕ} (l : Link (net_of (k + 1) from to) up x y)
        → Link (net_of k from to) up x y ⊎ ((up k ≡ true) × (((a ≡ x) × (b ≡ y)) ⊎ ((b ≡ x) × (a ≡ y))))
    sooner {x} {y} l = go (ℕ_discrete l.number k)
      where
        go : Dec (l.number ≡ k) → Link (net_of k from to) up x y ⊎ ((up k ≡ true) × (((a ≡ x) × (b ≡ y)) ⊎ ((b ≡ x) × (a ≡ y))))
        go (yes e) = inr (rw e at l.is_up, rw e at l.runs)
        go (no n) = inl (record { number = l.number; below = omega (arith, l.below, n); is_up = l.is_up; runs = l.runs })

    abbrev once : List ℕ
    once = ends_into a b a rows

    la' : a < length rows
    la' = rw ls.long la

    lb' : b < length once
    lb' = rw (length-set rows a (put (put (get_or rows a 0) a) b), ls.long) lb

    it : (x y : ℕ) → up k ≡ true → ((a ≡ x) × (b ≡ y)) ⊎ ((b ≡ x) × (a ≡ y)) → Link (net_of (k + 1) from to) up x y
    it x y u r = record { number = k; below = omega arith; is_up = u; runs = r }

    taken : up k ≡ true → Leads W (net_of (k + 1) from to) up (ends_into a b b once)
    taken u = record {
      long = length-set once b _ ∙ length-set rows a _ ∙ ls.long;
      low = ends_low a b b once lb' W la lb (ends_low a b a rows la' W la lb ls.low);
      only = λ x y h. ⊎_elim (λ p. ⊎_elim (λ q. ⊎_elim (λ e. inl e) (λ l. inr (later l)) (ls.only x y q)) (λ q. at_a x y q) (ends_inv a b a rows la' x y p)) (λ p. at_b x y p) (ends_inv a b b once lb' x y h);
      all = λ x y l. ⊎_elim (λ s. ends_kept a b b once lb' x y (ends_kept a b a rows la' x y (ls.all x y s))) (λ p. now x y p.1) (sooner l);
    }
      where
        at_a : (x y : ℕ) → (x ≡ a) × ((y ≡ a) ⊎ (y ≡ b)) → (x ≡ y) ⊎ Link (net_of (k + 1) from to) up x y
        at_a x y (e, inl f) = inl (e ∙ sym f)
        at_a x y (e, inr f) = inr (it x y u (inl (sym e, sym f)))

        at_b : (x y : ℕ) → (x ≡ b) × ((y ≡ a) ⊎ (y ≡ b)) → (x ≡ y) ⊎ Link (net_of (k + 1) from to) up x y
        at_b x y (e, inl f) = inr (it x y u (inr (sym e, sym f)))
        at_b x y (e, inr f) = inl (e ∙ sym f)

        now : (x y : ℕ) → ((a ≡ x) × (b ≡ y)) ⊎ ((b ≡ x) × (a ≡ y)) → bit (get_or (ends_into a b b once) x 0) y ≡ 1
        now x y (inl (e, f)) = rw (← e, ← f) (ends_kept a b b once lb' a b (ends_has a b a rows la').1)
        now x y (inr (e, f)) = rw (← e, ← f) (ends_has a b b once lb').0

    left : up k ≡ false → Leads W (net_of (k + 1) from to) up rows
    left u = record {
      long = ls.long;
      low = ls.low;
      only = λ x y h. ⊎_elim (λ e. inl e) (λ l. inr (later l)) (ls.only x y h);
      all = λ x y l. ⊎_elim (λ s. ls.all x y s) (λ p. absurd (false≢true (sym u ∙ p.0))) (sooner l);
    }

    -- THE LAW: the rows with one lightpath more
    pub leads_more : Leads W (net_of (k + 1) from to) up (noted (up k) a b rows)
    leads_more = go (up k) refl
      where
        go : (t : Bool) → up k ≡ t → Leads W (net_of (k + 1) from to) up (noted t a b rows)
        go true u = taken u
        go false u = left u
