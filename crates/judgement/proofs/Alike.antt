-- The side of a node depends on the ends of the lightpaths that there are and on which of them are up, and on nothing else.
-- So what the code holds in arrays and what a book says give the same sides.
use Prim.Native.Nat.{ℕ, zero, suc, ◌^◌, ◌<◌, ◌≤◌}
use mathlib.Core.Path.{◌≡◌, refl, ap, ◌∙◌}
use mathlib.Core.Bool.{Bool}
use native.Mathlib.Nat.{le_refl}
use native.Mathlib.Omega.{arith}
use Rattle.judgement.specs.Network.{Network, grown, swept, settled, side_of}

pub record Alike (net net' : Network) (up up' : ℕ → Bool) : Type 0 where
  pub count : net.count ≡ net'.count
  pub from : (k : ℕ) → k < net.count → net.from k ≡ net'.from k
  pub to : (k : ℕ) → k < net.count → net.to k ≡ net'.to k
  pub state : (k : ℕ) → k < net.count → up k ≡ up' k

module _ (net net' : Network) (up up' : ℕ → Bool) (a : Alike net net' up up') where
  sweep_alike : (n m : ℕ) → n ≤ net.count → swept net up n m ≡ swept net' up' n m
  unfolding swept grown
  sweep_alike zero m l = refl
  sweep_alike (suc n) m l = rw (a.state n l, a.from n l, a.to n l, sweep_alike n m (omega arith))

  whole_alike : (m : ℕ) → swept net up net.count m ≡ swept net' up' net'.count m
  whole_alike m = sweep_alike net.count m (le_refl _) ∙ ap (λ (n : ℕ). swept net' up' n m) a.count

  settle_alike : (d m : ℕ) → settled net up d m ≡ settled net' up' d m
  unfolding settled
  settle_alike zero m = refl
  settle_alike (suc d) m = rw (whole_alike m, settle_alike d (swept net' up' net'.count m))

  pub side_alike : (W s : ℕ) → side_of net up W s ≡ side_of net' up' W s
  unfolding side_of
  side_alike W s = settle_alike (2 ^ W) (2 ^ s)
