-- Ways from piece to piece, docs/CONTRACTION.md, section 2: which of them is the first, and how it is found.
use Rattle.std.specs.Prelude.{ℕ, zero, suc, ◌<◌, ◌^◌, ◌≡◌, List, [], ◌∷◌, ◌⊎◌, Bool, true, cond, ◌&&◌, ◌||◌, eqb, length}
use Rattle.book.specs.Bits.{has, put}
use Rattle.judgement.specs.Network.{Network}
use Rattle.judgement.specs.Judgement.{first_of}

-- lightpath k runs between x and y
abbrev pub Runs : Network → ℕ → ℕ → ℕ → Type 0
Runs net k x y = ((net.from k ≡ x) × (net.to k ≡ y)) ⊎ ((net.to k ≡ x) × (net.from k ≡ y))

-- the lowest number below n that passes a test; n if none does
abbrev pub lowest_of : (ℕ → Bool) → ℕ → ℕ
lowest_of t n = first_of t (λ k. k) n n 0

-- k stands in a list; no number stands in it twice
pub data In (k : ℕ) : List ℕ → Type 0 where
  now : {ks : List ℕ} → In k (k ∷ ks)
  later : {j : ℕ} {ks : List ℕ} → In k ks → In k (j ∷ ks)

pub data Distinct : List ℕ → Type 0 where
  empty : Distinct []
  extra : {k : ℕ} {ks : List ℕ} → (In k ks → ⊥) → Distinct ks → Distinct (k ∷ ks)

-- K9: of lists of one length the first comes before the second, or is the second, by the first place where they differ
pub data Lex : List ℕ → List ℕ → Type 0 where
  none : Lex [] []
  less : {k j : ℕ} {ks js : List ℕ} → k < j → Lex (k ∷ ks) (j ∷ js)
  same : {k : ℕ} {ks js : List ℕ} → Lex ks js → Lex (k ∷ ks) (k ∷ js)

-- K9: fewer lightpaths, or as many and not after it
abbrev pub Before : List ℕ → List ℕ → Type 0
Before ks js = (length ks < length js) ⊎ ((length ks ≡ length js) × Lex ks js)

module _ (net : Network) (free : ℕ → Bool) where
  -- K8: lightpaths of a list that may be used run, one after the other, from x to y
  pub data Way : ℕ → List ℕ → ℕ → Type 0 where
    here : {x : ℕ} → Way x [] x
    hop : {x z y k : ℕ} {ks : List ℕ} → k < net.count → free k ≡ true → Runs net k x z → Way z ks y → Way x (k ∷ ks) y

  -- the set old with what is one of the first n lightpaths away from it
  unfoldable pub widen : ℕ → ℕ → ℕ
  widen old zero = old
  widen old (suc k) = let r = widen old k in cond (free k && (has old (net.from k) || has old (net.to k))) (put (put r (net.from k)) (net.to k)) r

  -- K10: what is at most n lightpaths away from y
  unfoldable pub near : ℕ → ℕ → ℕ
  near y zero = 2 ^ y
  near y (suc n) = widen (near y n) net.count

  -- lightpath k leads from x into the set m; where to
  unfoldable pub leads : ℕ → ℕ → ℕ → Bool
  leads x m k = free k && ((eqb (net.from k) x && has m (net.to k)) || (eqb (net.to k) x && has m (net.from k)))

  unfoldable pub far : ℕ → ℕ → ℕ
  far x k = cond (eqb (net.from k) x) (net.to k) (net.from k)

  -- K10: the way from x to y, which is at most n lightpaths away: at each step the lowest lightpath that leads nearer
  unfoldable pub way : ℕ → ℕ → ℕ → List ℕ
  way y zero x = []
  way y (suc n) x =
      let k = lowest_of (leads x (near y n)) net.count in
      let r = k ∷ way y n (far x k) in
      let s = way y n x in
      cond (has (near y n) x) s r
