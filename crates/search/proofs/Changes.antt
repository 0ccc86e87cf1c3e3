-- A GREATER LIMIT never alters a FOUND or a NONE; and where all else is kept and span limits are only raised, no FOUND is lost: it is followed by
-- one at that number or lower. The first acceptable choice of the one book is acceptable in the other, so that the first there is no higher.
use Prim.Native.Nat.{ℕ, ◌<◌, ◌≤◌}
use mathlib.Core.Path.{◌≡◌, refl, sym, ap, ◌∙◌, subst}
use mathlib.Core.List.{List}
use mathlib.Core.Bool.{Bool, true, false, false≢true}
use mathlib.Core.Logic.{◌⊎◌, inl, inr}
use native.Mathlib.Decide.{dec_lt}
use native.Mathlib.Omega.{arith}
use Rattle.book.specs.Book.{RouteBook}
use Rattle.book.specs.Format.{Reading, good, reading}
use Rattle.book.specs.Choice.{sizes, product, choices, digits, chosen_by}
use Rattle.book.proofs.Choices.{sizes_kept}
use Rattle.judgement.specs.Judgement.{acceptable}
use Rattle.judgement.proofs.Changes.{Raised, raised, raised_chosen}
use Rattle.search.specs.declared.Finding.{Finding}
use Rattle.search.specs.declared.Finding.TheVariants.{Found, None, More}
use Rattle.std.specs.Prelude.{Result, Ok}
use Rattle.book.specs.declared.refusal.Refusal.{Refusal}
use Rattle.search.specs.Search.{acceptable_at, finding}
use Rattle.search.specs.Meaning.{NoneBelow, Given, found, none, more}
use Rattle.search.specs.Answers.{searched_of}
use Rattle.search.proofs.Findings.{given, given_only, found_exact, none_exact}
use Rattle.search.proofs.Told.{tells}

-- a greater limit, from the contract of `search`: r is its answer with the one, q with the other
module _ (s : List ℕ) (limit limit' : ℕ) (more-trials : limit ≤ limit')
    (r q : Result Finding Refusal) (met : r ≡ searched_of (reading s) limit) (met' : q ≡ searched_of (reading s) limit') where
  same : {f : Finding} → ((m : RouteBook) → finding m limit ≡ f → finding m limit' ≡ f) → r ≡ Ok f → q ≡ r
  same kept e =
      let x = tells s limit r met e in
      met' ∙ ap (λ (g : Reading). searched_of g limit') x.reads ∙ ap Ok (kept x.book x.is) ∙ sym e

  pub greater_found : {n t : ℕ} → r ≡ Ok (Found n t) → q ≡ r
  greater_found {n} {t} = same (λ m e. let p = (found_exact m limit n t).0 e in (found_exact m limit' n t).1 (omega (arith, p.0), p.1, p.2, p.3, p.4))

  pub greater_none : {t : ℕ} → r ≡ Ok (None t) → q ≡ r
  greater_none {t} = same (λ m e. let p = (none_exact m limit t).0 e in (none_exact m limit' t).1 (omega (arith, p.0), p.1, p.2))

-- limits raised
module _ (m m' : RouteBook) (r : Raised m m') (same-alternatives : m.alternatives ≡ m'.alternatives) where
  same_sizes : sizes m ≡ sizes m'
  same_sizes = sizes_kept m m' r.lightpaths same-alternatives

  pub choices_kept : choices m ≡ choices m'
  choices_kept = ap product same_sizes

  -- an acceptable choice stays acceptable
  pub stays : (n : ℕ) → acceptable_at m n ≡ true → acceptable_at m' n ≡ true
  stays n e =
      let ds = digits (sizes m) n in
      subst (λ (zs : List ℕ). acceptable (chosen_by m' (digits zs n)) ≡ true) same_sizes
      (raised (chosen_by m ds) (chosen_by m' ds) (raised_chosen m m' r same-alternatives ds) e)

  pub raised_finding : (limit n t : ℕ) → finding m limit ≡ Found n t → (n' : ℕ) × (n' ≤ n) × (finding m' limit ≡ Found n' t)
  raised_finding limit n t e = go (given m' limit) refl
    where
      now : (n < limit) × (n < choices m) × (acceptable_at m n ≡ true) × NoneBelow m n × (t ≡ choices m)
      now = (found_exact m limit n t).0 e

      passed : {x : ℕ} → NoneBelow m' x → n < x → ⊥
      passed h l = false≢true (sym (h n l) ∙ stays n now.2)

      go : {f : Finding} → Given m' limit f → finding m' limit ≡ f → (n' : ℕ) × (n' ≤ n) × (finding m' limit ≡ Found n' t)
      go (found n' a b h low) q = elim (dec_lt n n') [
        | yes l ↦ absurd (passed low l)
        | no l ↦ (n', omega arith, q ∙ ap (Found n') (sym (now.4 ∙ choices_kept)))
      ]
      go (none l h) q = absurd (passed h (omega (arith, now.1, choices_kept)))
      go (more l h) q = absurd (passed h now.0)

  -- and any other answer stays, or becomes a FOUND
  pub raised_stays : (limit : ℕ) → (finding m' limit ≡ finding m limit) ⊎ ((n : ℕ) × (finding m' limit ≡ Found n (choices m)))
  raised_stays limit = go (given m' limit) refl
    where
      before : {x : ℕ} → NoneBelow m' x → NoneBelow m x
      before h k l = each (acceptable_at m k) refl
        where
          each : (u : Bool) → acceptable_at m k ≡ u → u ≡ false
          each true e = absurd (false≢true (sym (h k l) ∙ stays k e))
          each false e = refl

      go : {f : Finding} → Given m' limit f → finding m' limit ≡ f → (finding m' limit ≡ finding m limit) ⊎ ((n : ℕ) × (finding m' limit ≡ Found n (choices m)))
      go (found n a b h low) q = inr (n, q ∙ ap (Found n) (sym choices_kept))
      go (none l h) q =
          let all = before h in
          inl (q ∙ ap None (sym choices_kept) ∙ given_only m limit (none (omega (arith, choices_kept)) (λ k u. all k (omega (arith, choices_kept)))))
      go (more l h) q = inl (q ∙ ap (More limit) (sym choices_kept) ∙ given_only m limit (more (omega (arith, choices_kept)) (before h)))

-- the same from the contract of `search`: r is its answer for the bytes of the one book, q for those of the other
pub raised_found : (s s' : List ℕ) (limit n t : ℕ) (m m' : RouteBook) → reading s ≡ good m → reading s' ≡ good m'
    → Raised m m' → m.alternatives ≡ m'.alternatives
    → (r q : Result Finding Refusal) → r ≡ searched_of (reading s) limit → q ≡ searched_of (reading s') limit
    → r ≡ Ok (Found n t) → (n' : ℕ) × (n' ≤ n) × (q ≡ Ok (Found n' t))
raised_found s s' limit n t m m' reads reads' raise same r q met met' e =
    let is : Ok (finding m limit) ≡ Ok (Found n t) = ap (λ (g : Reading). searched_of g limit) (sym reads) ∙ sym met ∙ e in
    let x = raised_finding m m' raise same limit n t cc in
    (x.0, x.1, met' ∙ ap (λ (g : Reading). searched_of g limit) reads' ∙ ap Ok x.2)
