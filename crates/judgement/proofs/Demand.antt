-- THE DEMAND, from the contract of `judge`: it answers OK exactly if the bytes are a good book with that choice, and of the chosen book no span is over its
-- limit and the network survives, in either form. The answer OK can come of no refusal, and the verdict on a well-formed book means what its kind says.
use Prim.Native.Nat.{ℕ, ◌<◌}
use mathlib.Core.Path.{◌≡◌, sym, ap, ◌∙◌, subst}
use mathlib.Core.List.{List}
use mathlib.Core.Bool.{true}
use mathlib.Core.Logic.Iff
use mathlib.Core.Logic.{◌↔◌}
use native.Mathlib.Omega.{arith}
use Rattle.book.specs.Book.{RouteBook, well_formed}
use Rattle.book.specs.Format.{Reading, encode, good, reading}
use Rattle.book.specs.Choice.{choices, chosen}
use Rattle.book.specs.Writing.{chosen_of}
use Rattle.book.proofs.Readers.{Bytes}
use Rattle.book.proofs.Format.{reading_back, reading_only}
use Rattle.book.proofs.Chosen.{choice_fits}
use Rattle.book.proofs.Written.{such_a_choice}
use Rattle.book.proofs.ChoiceRead.{ChoiceIs, such, no_such, choice_is}
use Rattle.judgement.specs.declared.Verdict.TheVariants.{Okay}
use Rattle.judgement.specs.declared.Judged.{Judged}
use Rattle.std.specs.Prelude.{Result, Ok}
use Rattle.book.specs.declared.refusal.Refusal.{Refusal}
use Rattle.judgement.specs.Judgement.{verdict}
use Rattle.judgement.specs.Cuts.{Survives, CutForm}
use Rattle.judgement.specs.Meaning.{NoneOver}
use Rattle.judgement.specs.Answers.{judged, judgement_of, judged_of}
use Rattle.judgement.proofs.Cuts.{same_forms}
use Rattle.judgement.proofs.Verdicts.{okay_exact}
use Rattle.judgement.proofs.Scores.{okay_scores}

-- the bytes s are a well-formed book, n is the number of one of its choices, and of the chosen book no span is over and the form holds
pub record Meets (Form : RouteBook → Type 0) (s : List ℕ) (n : ℕ) : Type 0 where
  pub book : RouteBook
  pub fits : well_formed book ≡ true
  pub written : encode book ≡ s
  pub below : n < choices book
  pub none_over : NoneOver (chosen book n)
  pub survives : Form (chosen book n)

-- OK comes with scores of nought
pub okay_noughts : (m : RouteBook) → well_formed m ≡ true → verdict m ≡ Okay → judged_of (good m) ≡ Ok (judged Okay 0 0)
okay_noughts m fits e = let z = okay_scores m fits e in rw (e, z.0, z.1)

module _ (s : List ℕ) (n : ℕ) where
  -- one form for another, where they say the same of every well-formed book
  in_form : {P Q : RouteBook → Type 0} → ((c : RouteBook) → well_formed c ≡ true → P c → Q c) → Meets P s n → Meets Q s n
  in_form f d = record {
    book = d.book;
    fits = d.fits;
    written = d.written;
    below = d.below;
    none_over = d.none_over;
    survives = f (chosen d.book n) (choice_fits d.book n d.fits) d.survives;
  }

  module _ (h : Bytes s) (r : Result Judged Refusal) (met : r ≡ judged_of (chosen_of (reading s) n)) where
    pub okay_joined : (r ≡ Ok (judged Okay 0 0)) ↔ Meets Survives s n
    okay_joined = ((λ e. to (choice_is s n) (sym met ∙ e)), from)
      where
        to : {g : Reading} → ChoiceIs s n g → judged_of g ≡ Ok (judged Okay 0 0) → Meets Survives s n
        to (such m q l) e =
            let o = reading_only s m h q in
            let same : judgement_of (chosen m n) ≡ judged Okay 0 0 = cc in
            let okay : verdict (chosen m n) ≡ Okay = ap (λ (j : Judged). j.verdict) same in
            let p = (okay_exact (chosen m n) (choice_fits m n o.1)).0 okay in
            record { book = m; fits = o.1; written = o.0; below = l; none_over = p.0; survives = p.1 }
        to (no_such x) e = let z : ◌≡◌ {A = ℕ} 0 1 = cc in absurd (omega arith)

        from : Meets Survives s n → r ≡ Ok (judged Okay 0 0)
        from d =
            let m = d.book in
            let reads : reading s ≡ good m = subst (λ (b : List ℕ). reading b ≡ good m) d.written (reading_back m d.fits) in
            met ∙ ap (λ (g : Reading). judged_of (chosen_of g n)) reads ∙ ap judged_of (such_a_choice m n d.below)
            ∙ okay_noughts (chosen m n) (choice_fits m n d.fits) ((okay_exact (chosen m n) (choice_fits m n d.fits)).1 (d.none_over, d.survives))

    -- no OK is left out: it never comes with another score
    pub okay_always : {f c : ℕ} → r ≡ Ok (judged Okay f c) → r ≡ Ok (judged Okay 0 0)
    okay_always {f} {c} e = met ∙ go (choice_is s n) (sym met ∙ e)
      where
        go : {g : Reading} → ChoiceIs s n g → judged_of g ≡ Ok (judged Okay f c) → judged_of g ≡ Ok (judged Okay 0 0)
        go (such m q l) w =
            let same : judgement_of (chosen m n) ≡ judged Okay f c = cc in
            let okay : verdict (chosen m n) ≡ Okay = ap (λ (j : Judged). j.verdict) same in
            okay_noughts (chosen m n) (choice_fits m n (reading_only s m h q).1) okay
        go (no_such x) w = let z : ◌≡◌ {A = ℕ} 0 1 = cc in absurd (omega arith)

    pub okay_means : (r ≡ Ok (judged Okay 0 0)) ↔ Meets CutForm s n
    okay_means = Iff.trans okay_joined (in_form (λ c w. (same_forms c w).0), in_form (λ c w. (same_forms c w).1))
