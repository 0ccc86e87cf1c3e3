-- An answer that is told comes of a good book, and a refusal of a refused one: the reading of the bytes decides which.
use Prim.Native.Nat.{ℕ}
use mathlib.Core.Path.{◌≡◌, refl, sym, ap, ◌∙◌}
use mathlib.Core.List.{List}
use mathlib.Core.Logic.{◌↔◌}
use native.Mathlib.Omega.{arith}
use Rattle.book.specs.Book.{RouteBook}
use Rattle.book.specs.Format.{Reading, good, refused, reading}
use Rattle.book.proofs.Readers.{Bytes}
use Rattle.book.specs.Memory.{fault_number, refusal}
use Rattle.book.proofs.Faults.{refusal_back}
use Rattle.book.proofs.Unique.{refused_within}
use Rattle.book.proofs.Tabled.{refused_number}
use Rattle.search.specs.declared.Finding.{Finding}
use Rattle.search.specs.declared.Finding.TheVariants.{Found, None, More}
use Rattle.std.specs.Prelude.{Result, Ok, Err}
use Rattle.book.specs.declared.refusal.Refusal.{Refusal}
use Rattle.search.specs.Search.{finding}
use Rattle.search.specs.Answers.{searched_of, searched_numbers}

-- the bytes s are a good book, and f is what is found in it
pub record Tells (s : List ℕ) (limit : ℕ) (f : Finding) : Type 0 where
  pub book : RouteBook
  pub reads : reading s ≡ good book
  pub is : finding book limit ≡ f

module _ (s : List ℕ) (limit : ℕ) (r : Result Finding Refusal) (met : r ≡ searched_of (reading s) limit) where
  pub tells : {f : Finding} → r ≡ Ok f → Tells s limit f
  tells {f} e = go (reading s) refl (sym met ∙ e)
    where
      go : (g : Reading) → reading s ≡ g → searched_of g limit ≡ Ok f → Tells s limit f
      go (good m) q w = record { book = m; reads = q; is = cc }
      go (refused k p) q w = let z : ◌≡◌ {A = ℕ} 0 1 = cc in absurd (omega arith)

  -- a refusal is that of the book, with its number and place
  pub refused_exact : (e : Refusal) → (r ≡ Err e) ↔ (reading s ≡ refused (fault_number e.fault) e.place)
  refused_exact e = ((λ q. go (reading s) refl (sym met ∙ q)), (λ q. met ∙ ap (λ (g : Reading). searched_of g limit) q ∙ ap Err (refusal_back e)))
    where
      go : (g : Reading) → reading s ≡ g → searched_of g limit ≡ Err e → reading s ≡ refused (fault_number e.fault) e.place
      go (good m) q w = let z : ◌≡◌ {A = ℕ} 0 1 = cc in absurd (omega arith)
      go (refused i j) q w = let same : refusal i j ≡ e = cc in rw (← same) (rw (refused_number s q) q)

  -- it has a number of its own, so number 0 means that the answer is told
  pub searched_told : Bytes s → ((searched_numbers r).number ≡ 0) ↔ ((m : RouteBook) × (reading s ≡ good m))
  searched_told h = (go (reading s) refl met, (λ z. ap number_of (met ∙ ap (λ (g : Reading). searched_of g limit) z.1) ∙ kinds (finding z.0 limit)))
    where
      number_of : Result Finding Refusal → ℕ
      number_of x = (searched_numbers x).number

      kinds : (f : Finding) → (searched_numbers (Ok f)).number ≡ 0
      kinds (Found n t) = refl
      kinds (None t) = refl
      kinds (More b t) = refl

      go : (g : Reading) → reading s ≡ g → r ≡ searched_of g limit → (searched_numbers r).number ≡ 0 → (m : RouteBook) × (reading s ≡ good m)
      go (good m) q w z = (m, q)
      go (refused k p) q w z = absurd (omega (arith, (refused_within s k p h q).0, refused_number s q, z, ap number_of w))
