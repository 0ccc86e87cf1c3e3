-- The array of what is up holds a test at its first n places and false beyond, since each store keeps the places before it.
-- So the side by the array is the side by the test.
use Prim.Native.Nat.{ℕ, zero, suc, ◌+◌, ◌≤◌, ◌<◌}
use mathlib.Core.Path.{◌≡◌, refl, ap, ◌∙◌}
use mathlib.Core.List.{List}
use mathlib.Core.Bool.{Bool, false}
use native.Mathlib.Numerals.{add-one}
use native.Mathlib.Decide.{dec_lt, ℕ_discrete}
use native.Mathlib.Omega.{arith}
use lib.ListN.{length, get_or, set, replicate, length-set, length-replicate, get_or-replicate, get_or-eq_default}
use lib.Seq.{get_or-set_same, get_or-set_other}
use Rattle.judgement.specs.Network.{side_of}
use Rattle.judgement.specs.Inside.{net_of, up_of, Fits, up_table}
use Rattle.judgement.proofs.Alike.{side_alike}

-- the ends of lightpaths in arrays that fit
pub ends : {n : ℕ} {from to : List ℕ} → Fits n from to → (k : ℕ) → k < n → (get_or from k 0 < 64) × (get_or to k 0 < 64)
ends h k l = (h.from_low k, h.to_low k)

module _ (t : ℕ → Bool) where
  -- no place yet, and one place more
  pub table_none : replicate 96 false ≡ up_table t 0
  unfolding up_table
  table_none = refl

  pub table_more : (k : ℕ) {u : List Bool} {b : Bool} → u ≡ up_table t k → b ≡ t k → set u k b ≡ up_table t (k + 1)
  unfolding up_table
  table_more k e f = rw (add-one k, e, f)

  pub table_long : (n : ℕ) → length (up_table t n) ≡ 96
  unfolding up_table
  table_long zero = length-replicate 96 false
  table_long (suc n) = length-set (up_table t n) n (t n) ∙ table_long n

  -- what a place holds
  pub table_at : (n k : ℕ) → n ≤ 96 → k < n → get_or (up_table t n) k false ≡ t k
  unfolding up_table
  table_at zero k few l = absurd (omega arith)
  table_at (suc n) k few l = go (λ m. table_at n k (omega arith) m) (ℕ_discrete k n)
    where
      go : (k < n → get_or (up_table t n) k false ≡ t k) → Dec (k ≡ n) → get_or (set (up_table t n) n (t n)) k false ≡ t k
      go ih (yes y) = rw y (get_or-set_same (up_table t n) n (t n) false (omega (arith, table_long n)))
      go ih (no z) = get_or-set_other (up_table t n) n k (t n) false z ∙ ih (omega arith)

  pub table_past : (n k : ℕ) → n ≤ k → get_or (up_table t n) k false ≡ false
  unfolding up_table
  table_past zero k l = go (dec_lt k 96)
    where
      go : Dec (k < 96) → get_or (replicate 96 false) k false ≡ false
      go (yes y) = get_or-replicate 96 k false false y
      go (no z) = get_or-eq_default (replicate 96 false) false {n = k} (omega (arith, length-replicate 96 false))
  table_past (suc n) k l = get_or-set_other (up_table t n) n k (t n) false (λ e. omega arith) ∙ table_past n k (omega arith)

  -- THE LAW
  pub table_side : (n : ℕ) (from to : List ℕ) {u : List Bool} → n ≤ 96 → u ≡ up_table t n → (W s : ℕ) → side_of (net_of n from to) (up_of u) W s ≡ side_of (net_of n from to) t W s
  table_side n from to {u} few e = side_alike (net_of n from to) (net_of n from to) (up_of u) t (record {
    count = refl;
    from = λ k l. refl;
    to = λ k l. refl;
    state = λ k l. ap (λ (x : List Bool). get_or x k false) e ∙ table_at n k few l;
  })
