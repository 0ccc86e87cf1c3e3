-- Chains of lightpaths may be joined end to end and turned round, and each lightpath of one may be replaced by a chain.
-- So where every lightpath that is lost has a way round, nothing is parted.
use Prim.Native.Nat.{ℕ}
use mathlib.Core.Path.{◌≡◌}
use mathlib.Core.Logic.{◌⊎◌, inl, inr}
use mathlib.Core.Bool.{Bool}
use Rattle.judgement.specs.Network.{Network, Link, Joined, start, more}

module _ (net : Network) (up : ℕ → Bool) where
  pub join_trans : {x y z : ℕ} → Joined net up x y → Joined net up y z → Joined net up x z
  join_trans p start = p
  join_trans p (more q l) = more (join_trans p q) l

  turned : {x y : ℕ} → Link net up x y → Link net up y x
  turned l = record { number = l.number; below = l.below; is_up = l.is_up; runs = other l.runs }
    where
      other : {a b x y : ℕ} → ((a ≡ x) × (b ≡ y)) ⊎ ((b ≡ x) × (a ≡ y)) → ((a ≡ y) × (b ≡ x)) ⊎ ((b ≡ y) × (a ≡ x))
      other (inl r) = inr (r.1, r.0)
      other (inr r) = inl (r.1, r.0)

  pub join_sym : {x y : ℕ} → Joined net up x y → Joined net up y x
  join_sym start = start
  join_sym (more q l) = join_trans (more start (turned l)) (join_sym q)

pub join_bind : (net : Network) (up up' : ℕ → Bool) → ((x y : ℕ) → Link net up x y → Joined net up' x y) → {x y : ℕ} → Joined net up x y → Joined net up' x y
join_bind net up up' f start = start
join_bind net up up' f (more q l) = join_trans net up' (join_bind net up up' f q) (f _ _ l)
