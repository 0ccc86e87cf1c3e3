-- THE ANSWERS OF `close`, from its contract: it tells a site exactly if the bytes are a good book with that choice and the site is given of the chosen book.
-- It refuses just what the reading of the choice refuses, with the same number and place.
use Prim.Native.Nat.{ℕ, ◌<◌}
use mathlib.Core.Path.{◌≡◌, refl, sym, ap, ◌∙◌, subst}
use mathlib.Core.List.{List}
use mathlib.Core.Bool.{true}
use mathlib.Core.Logic.{◌↔◌}
use native.Mathlib.Omega.{arith}
use Rattle.book.specs.Book.{RouteBook, well_formed}
use Rattle.book.specs.Format.{Reading, encode, good, refused, reading}
use Rattle.book.specs.Choice.{choices, chosen}
use Rattle.book.specs.Writing.{chosen_of}
use Rattle.book.proofs.Readers.{Bytes}
use Rattle.book.proofs.Format.{reading_back, reading_only}
use Rattle.book.proofs.Chosen.{choice_fits}
use Rattle.book.proofs.Written.{such_a_choice}
use Rattle.book.proofs.ChoiceRead.{ChoiceIs, such, no_such, choice_is, refused_number}
use Rattle.book.proofs.Faults.{refusal_back}
use Rattle.std.specs.Prelude.{Option, Some, None, Result, Ok, Err}
use Rattle.book.specs.Memory.{fault_number, refusal}
use Rattle.book.specs.declared.refusal.Refusal.{Refusal}
use Rattle.judgement.specs.declared.Down.{Down}
use Rattle.judgement.specs.declared.Verdict.{Verdict}
use Rattle.judgement.specs.declared.Judged.{Judged}
use Rattle.judgement.specs.Judgement.{verdict}
use Rattle.judgement.specs.Answers.{judged, judgement_of, judged_of}
use Rattle.judgement.specs.Sites.{site_of, SiteGiven, Three, closed_of, closed_numbers, OkayOrOver}
use Rattle.judgement.proofs.Opened.{fits_all, told_good}
use Rattle.judgement.proofs.Sites.{site_given, site_only}
use Rattle.judgement.proofs.Standing.{site_verdict}

-- the bytes s are a well-formed book, n is the number of one of its choices, and the site is given of the chosen book
pub record Closes (x : Option Down) (s : List ℕ) (n : ℕ) : Type 0 where
  pub book : RouteBook
  pub fits : well_formed book ≡ true
  pub written : encode book ≡ s
  pub below : n < choices book
  pub given : SiteGiven (chosen book n) x

module _ (s : List ℕ) (n : ℕ) (h : Bytes s) where
  pub closed_told : ((closed_numbers (closed_of (chosen_of (reading s) n))).number ≡ 0) ↔ ((m : RouteBook) × (chosen_of (reading s) n ≡ good m))
  closed_told = told_good s n h (λ g. (closed_numbers (closed_of g)).number) (λ m. kinds (site_of m)) (λ k p. refl)
    where
      kinds : (x : Option Down) → (closed_numbers (Ok x)).number ≡ 0
      kinds (Some d) = refl
      kinds None = refl

  module _ (r : Result (Option Down) Refusal) (met : r ≡ closed_of (chosen_of (reading s) n)) where
    pub close_means : (x : Option Down) → (r ≡ Ok x) ↔ Closes x s n
    close_means x = ((λ e. to (choice_is s n) (sym met ∙ e)), from)
      where
        to : {g : Reading} → ChoiceIs s n g → closed_of g ≡ Ok x → Closes x s n
        to (such m q l) e =
            let o = reading_only s m h q in
            let is : site_of (chosen m n) ≡ x = cc in
            record { book = m; fits = o.1; written = o.0; below = l; given = subst (SiteGiven (chosen m n)) is (site_given (chosen m n) (choice_fits m n o.1)) }
        to (no_such x) e = let z : ◌≡◌ {A = ℕ} 0 1 = cc in absurd (omega arith)

        from : Closes x s n → r ≡ Ok x
        from d =
            let m = d.book in
            let reads : reading s ≡ good m = subst (λ (b : List ℕ). reading b ≡ good m) d.written (reading_back m d.fits) in
            met ∙ ap (λ (g : Reading). closed_of (chosen_of g n)) reads ∙ ap closed_of (such_a_choice m n d.below) ∙ ap Ok (sym (site_only (chosen m n) (choice_fits m n d.fits) d.given))

    pub close_refused : (e : Refusal) → (r ≡ Err e) ↔ (chosen_of (reading s) n ≡ refused (fault_number e.fault) e.place)
    close_refused e = ((λ q. to (choice_is s n) (sym met ∙ q)), (λ q. met ∙ ap closed_of q ∙ ap Err (refusal_back e)))
      where
        to : {g : Reading} → ChoiceIs s n g → closed_of g ≡ Err e → g ≡ refused (fault_number e.fault) e.place
        to (such m q l) w = let z : ◌≡◌ {A = ℕ} 0 1 = cc in absurd (omega arith)
        to (no_such {k} {p} x) w = let same : refusal k p ≡ e = cc in rw (← same) (rw (refused_number s n x) refl)

-- THE TWO JUDGEMENTS: r is what `close` answers, and r' what `judge` answers, of the same bytes and the same choice
module _ (s : List ℕ) (n : ℕ) (h : Bytes s) (r : Result (Option Down) Refusal) (r' : Result Judged Refusal) (met : r ≡ closed_of (chosen_of (reading s) n)) (met' : r' ≡ judged_of (chosen_of (reading s) n)) where
  pub close_judge : r ≡ Ok None → ((m : RouteBook) → chosen_of (reading s) n ≡ good m → Three m) → (v : Verdict) (f c : ℕ) → r' ≡ Ok (judged v f c) → OkayOrOver v
  close_judge e three v f c e' = go (chosen_of (reading s) n) refl (sym met ∙ e) (sym met' ∙ e')
    where
      go : (g : Reading) → chosen_of (reading s) n ≡ g → closed_of g ≡ Ok None → judged_of g ≡ Ok (judged v f c) → OkayOrOver v
      go (good m) q w w' =
          let stands : site_of m ≡ None = cc in
          let same : judgement_of m ≡ judged v f c = cc in
          let is : verdict m ≡ v = ap (λ (j : Judged). j.verdict) same in
          subst OkayOrOver is (site_verdict m (fits_all s n h m q) (three m q) stands)
      go (refused k p) q w w' = let z : ◌≡◌ {A = ℕ} 0 1 = cc in absurd (omega arith)
