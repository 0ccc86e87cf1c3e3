-- What is found means what docs/SEARCH.md says of its kind and numbers, and no other answer does.
-- The first of a range at which a test holds is the least; where there is none, the limit and the number of choices say which answer is left.
use Prim.Native.Nat.{ℕ, ◌<◌, ◌≤◌, min, zero-le}
use mathlib.Core.Path.{◌≡◌, refl, sym, ap, ◌∙◌, subst}
use mathlib.Core.Logic.{◌↔◌}
use mathlib.Core.Bool.{true}
use native.Mathlib.Decide.{dec_lt}
use native.Mathlib.Omega.{arith}
use borrow.Author.Tests.{le-leb, lt-leb}
use Rattle.book.specs.Book.{RouteBook, well_formed}
use Rattle.book.specs.Choice.{choices}
use Rattle.book.proofs.Choices.{choices_some}
use Rattle.judgement.proofs.First.{First, there, nowhere, first, first_only}
use Rattle.search.specs.declared.Finding.{Finding}
use Rattle.search.specs.declared.Finding.TheVariants.{Found, None, More}
use Rattle.search.specs.Search.{acceptable_at, found_at, unfound, finding}
use Rattle.search.specs.Meaning.{NoneBelow, Given, found, none, more}

module _ (m : RouteBook) (limit : ℕ) where
  -- what is left where none is found
  pub left_none : choices m ≤ limit → None (choices m) ≡ unfound m limit
  left_none l = rw (le-leb (choices m) limit l)

  pub left_more : limit < choices m → More limit (choices m) ≡ unfound m limit
  left_more l = rw (lt-leb (choices m) limit l)

  left_given : NoneBelow m (min limit (choices m)) → Given m limit (unfound m limit)
  left_given h = elim (dec_lt limit (choices m)) [
    | yes l ↦ subst (Given m limit) (left_more l) (more l (λ k q. h k (omega arith)))
    | no l ↦ let z : choices m ≤ limit = omega arith in subst (Given m limit) (left_none z) (none z (λ k q. h k (omega arith)))
  ]

  -- THE LAW: what is found means what its kind and numbers say
  pub given : Given m limit (finding m limit)
  given = go (first (acceptable_at m) (found_at m) (unfound m limit) (min limit (choices m)) 0)
    where
      go : {f : Finding} → First (acceptable_at m) (found_at m) (unfound m limit) (min limit (choices m)) 0 f → Given m limit f
      go (there n a b h low) = found n (omega arith) (omega arith) h (λ k l. low k zero-le l)
      go (nowhere h) = left_given (λ k l. h k zero-le (omega arith))

  only : {f : Finding} → First (acceptable_at m) (found_at m) (unfound m limit) (min limit (choices m)) 0 f → f ≡ finding m limit
  only = first_only (acceptable_at m) (found_at m) (unfound m limit) (min limit (choices m)) 0

  -- and no other answer means that
  pub given_only : {f : Finding} → Given m limit f → f ≡ finding m limit
  given_only (found n a b h low) = only (there n zero-le (omega arith) h (λ k z l. low k l))
  given_only (none l h) = left_none l ∙ only (nowhere (λ k z q. h k (omega arith)))
  given_only (more l h) = left_more l ∙ only (nowhere (λ k z q. h k (omega arith)))

  pub given_once : {f f' : Finding} → Given m limit f → Given m limit f' → f ≡ f'
  given_once g g' = given_only g ∙ sym (given_only g')

  -- each kind by itself, with its numbers
  pub found_exact : (n t : ℕ) → (finding m limit ≡ Found n t) ↔ ((n < limit) × (n < choices m) × (acceptable_at m n ≡ true) × NoneBelow m n × (t ≡ choices m))
  found_exact n t = ((λ e. go (subst (Given m limit) e given)), (λ p. sym (given_only (found n p.0 p.1 p.2 p.3)) ∙ ap (Found n) (sym p.4)))
    where
      go : {n t : ℕ} → Given m limit (Found n t) → (n < limit) × (n < choices m) × (acceptable_at m n ≡ true) × NoneBelow m n × (t ≡ choices m)
      go (found n a b h low) = (a, b, h, low, refl)

  pub none_exact : (t : ℕ) → (finding m limit ≡ None t) ↔ ((choices m ≤ limit) × NoneBelow m (choices m) × (t ≡ choices m))
  none_exact t = ((λ e. go (subst (Given m limit) e given)), (λ p. sym (given_only (none p.0 p.1)) ∙ ap None (sym p.2)))
    where
      go : {t : ℕ} → Given m limit (None t) → (choices m ≤ limit) × NoneBelow m (choices m) × (t ≡ choices m)
      go (none l h) = (l, h, refl)

  pub more_exact : (b t : ℕ) → (finding m limit ≡ More b t) ↔ ((limit < choices m) × NoneBelow m limit × (b ≡ limit) × (t ≡ choices m))
  more_exact b t = ((λ e. go (subst (Given m limit) e given)), (λ p. sym (given_only (more p.0 p.1)) ∙ rw (p.2, p.3)))
    where
      go : {b t : ℕ} → Given m limit (More b t) → (limit < choices m) × NoneBelow m limit × (b ≡ limit) × (t ≡ choices m)
      go (more l h) = (l, h, refl, refl)

-- limit 0 is MORE, whatever the book
pub limit_nought : (m : RouteBook) → well_formed m ≡ true → finding m 0 ≡ More 0 (choices m)
limit_nought m w = (more_exact m 0 0 (choices m)).1 (omega (arith, choices_some m w), (λ k l. absurd (omega arith)), refl, refl)
