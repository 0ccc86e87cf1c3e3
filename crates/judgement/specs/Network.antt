-- Lightpaths that are up join their ends: docs/JUDGEMENT.md, section 2. Joining speaks of which lightpaths are up, and of nothing else.
use Rattle.std.specs.Prelude.{ℕ, zero, suc, ◌^◌, ◌<◌, ◌≡◌, ◌⊎◌, Bool, true, cond, ◌&&◌, ◌||◌, eqb}
use Rattle.book.specs.Bits.{has, put}

-- J4: lightpaths 0 to count - 1, with the ends of each
pub record Network : Type 0 where
  pub count : ℕ
  pub from : ℕ → ℕ
  pub to : ℕ → ℕ

-- which lightpaths are up is a test on their numbers
module _ (net : Network) (up : ℕ → Bool) where
  -- J5: a lightpath that is up runs between x and y
  pub record Link (x y : ℕ) : Type 0 where
    pub number : ℕ
    pub below : number < net.count
    pub is_up : up number ≡ true
    pub runs : ((net.from number ≡ x) × (net.to number ≡ y)) ⊎ ((net.to number ≡ x) × (net.from number ≡ y))

  -- J6: a chain of such lightpaths runs from s
  pub data Joined (s : ℕ) : ℕ → Type 0 where
    start : Joined s s
    more : {x y : ℕ} → Joined s x → Link x y → Joined s y

-- J7: the side is computed: it starts as one station and grows until no lightpath leaves it. The set m with both ends of a lightpath, where that is
-- up and m has one of them
unfoldable pub brought : Bool → ℕ → ℕ → ℕ → ℕ
brought u a b m = cond (u && (has m a || has m b)) (put (put m a) b) m

module _ (net : Network) (up : ℕ → Bool) where
  unfoldable pub grown : ℕ → ℕ → ℕ
  unfolding brought
  grown k m = brought (up k) (net.from k) (net.to k) m

  -- one sweep over the lightpaths below k
  unfoldable pub swept : ℕ → ℕ → ℕ
  swept zero m = m
  swept (suc k) m = grown k (swept k m)

  -- sweeps until one adds nothing, d at most
  unfoldable pub settled : ℕ → ℕ → ℕ
  settled zero m = m
  settled (suc d) m = let r = settled d (swept net.count m) in cond (eqb (swept net.count m) m) m r

  -- the side of s among W nodes: each sweep that adds makes the number greater, so that 2 ^ W are enough
  unfoldable pub side_of : ℕ → ℕ → ℕ
  side_of W s = settled (2 ^ W) (2 ^ s)
