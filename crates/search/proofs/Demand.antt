-- THE DEMAND, from the contracts of `search` and `judge`: FOUND n exactly if n is below the limit, `judge` answers OK for choice n, and for no lower one;
-- NONE and MORE likewise. For a number below the number of choices, `judge` tells the verdict on the choice, which is OK exactly if it is acceptable.
use Prim.Native.Nat.{ℕ, ◌<◌, ◌≤◌}
use mathlib.Core.Path.{◌≡◌, refl, sym, ap, ◌∙◌, subst}
use mathlib.Core.List.{List}
use mathlib.Core.Logic.{◌↔◌}
use mathlib.Core.Bool.{Bool, true, false, false≢true}
use native.Mathlib.Decide.{dec_lt}
use native.Mathlib.Omega.{arith}
use Rattle.book.specs.Book.{RouteBook, well_formed}
use Rattle.book.specs.Format.{Reading, encode, good, reading}
use Rattle.book.specs.Choice.{choices, chosen}
use Rattle.book.specs.Writing.{chosen_of}
use Rattle.book.proofs.Readers.{Bytes}
use Rattle.book.proofs.Format.{reading_back, reading_only}
use Rattle.book.proofs.Chosen.{choice_fits}
use Rattle.book.proofs.Written.{such_a_choice, no_such_choice}
use Rattle.judgement.specs.declared.Verdict.TheVariants.{Okay}
use Rattle.judgement.specs.declared.Judged.{Judged}
use Rattle.judgement.specs.Judgement.{verdict, is_okay}
use Rattle.judgement.specs.Cuts.{Survives, CutForm}
use Rattle.judgement.specs.Answers.{judged, judgement_of, judged_of}
use Rattle.book.specs.Memory.{refusal}
use Rattle.judgement.proofs.Verdicts.{okay_only}
use Rattle.judgement.proofs.Demand.{Meets, okay_noughts, okay_joined, okay_means}
use Rattle.search.specs.declared.Finding.{Finding}
use Rattle.search.specs.declared.Finding.TheVariants.{Found, None, More}
use Rattle.std.specs.Prelude.{Result, Ok, Err}
use Rattle.book.specs.declared.refusal.Refusal.{Refusal}
use Rattle.search.specs.Search.{acceptable_at, finding}
use Rattle.search.specs.Meaning.{NoneBelow}
use Rattle.search.specs.Answers.{searched_of}
use Rattle.search.proofs.Findings.{found_exact, none_exact, more_exact}
use Rattle.search.proofs.Told.{tells}

module _ (s : List ℕ) where
  -- `judge` answers OK for choice n of the bytes s, by its contract; the scores are then nought
  abbrev pub JudgedOkay : ℕ → Type 0
  JudgedOkay n = judged_of (chosen_of (reading s) n) ≡ Ok (judged Okay 0 0)

  -- and for no choice below x
  abbrev pub NoneOkay : ℕ → Type 0
  NoneOkay x = (k : ℕ) → k < x → JudgedOkay k → ⊥

  -- the bytes are a well-formed book with t choices
  pub record Counts (t : ℕ) : Type 0 where
    pub book : RouteBook
    pub fits : well_formed book ≡ true
    pub written : encode book ≡ s
    pub is : t ≡ choices book

-- what `judge` says of a choice of a good book
module _ (s : List ℕ) (bytes : Bytes s) (m : RouteBook) (reads : reading s ≡ good m) where
  judged_is : (n : ℕ) → n < choices m → judged_of (chosen_of (reading s) n) ≡ judged_of (good (chosen m n))
  judged_is n l = ap (λ (g : Reading). judged_of (chosen_of g n)) reads ∙ ap judged_of (such_a_choice m n l)

  to_judged : (n : ℕ) → n < choices m → acceptable_at m n ≡ true → JudgedOkay s n
  to_judged n l e = judged_is n l ∙ okay_noughts (chosen m n) (choice_fits m n (reading_only s m bytes reads).1) (okay_only (verdict (chosen m n)) e)

  from_judged : (n : ℕ) → JudgedOkay s n → (n < choices m) × (acceptable_at m n ≡ true)
  from_judged n j = elim (dec_lt n (choices m)) [
    | yes l ↦ (l, told l (sym (judged_is n l) ∙ j))
    | no l ↦ none (ap (λ (g : Reading). judged_of g) (sym (ap (λ (g : Reading). chosen_of g n) reads ∙ no_such_choice m n (omega arith))) ∙ j)
  ]
    where
      told : n < choices m → judged_of (good (chosen m n)) ≡ Ok (judged Okay 0 0) → acceptable_at m n ≡ true
      told l e =
          let same : judgement_of (chosen m n) ≡ judged Okay 0 0 = cc in
          ap (λ (j : Judged). is_okay j.verdict) same

      none : ◌≡◌ {A = Result Judged Refusal} (Err (refusal 12 0)) (Ok (judged Okay 0 0)) → (n < choices m) × (acceptable_at m n ≡ true)
      none e = let z : ◌≡◌ {A = ℕ} 0 1 = cc in absurd (omega arith)

  -- so for the numbers below x
  none_judged : (x : ℕ) → NoneBelow m x → NoneOkay s x
  none_judged x h k l j = false≢true (sym (h k l) ∙ (from_judged k j).1)

  judged_none : (x : ℕ) → x ≤ choices m → NoneOkay s x → NoneBelow m x
  judged_none x u h k l = go (acceptable_at m k) refl
    where
      go : (t : Bool) → acceptable_at m k ≡ t → t ≡ false
      go true e = absurd (h k l (to_judged k (omega arith) e))
      go false e = refl

module _ (s : List ℕ) (limit : ℕ) (h : Bytes s) (r : Result Finding Refusal) (met : r ≡ searched_of (reading s) limit) where
  counts_of : {t : ℕ} (m : RouteBook) → reading s ≡ good m → t ≡ choices m → Counts s t
  counts_of m q e = let o = reading_only s m h q in record { book = m; fits = o.1; written = o.0; is = e }

  reads_as : {t : ℕ} (c : Counts s t) → reading s ≡ good c.book
  reads_as c = subst (λ (b : List ℕ). reading b ≡ good c.book) c.written (reading_back c.book c.fits)

  searched : {t : ℕ} (c : Counts s t) {f : Finding} → finding c.book limit ≡ f → r ≡ Ok f
  searched c e = met ∙ ap (λ (g : Reading). searched_of g limit) (reads_as c) ∙ ap Ok e

  pub found_means : (n t : ℕ) → (r ≡ Ok (Found n t)) ↔ ((n < limit) × JudgedOkay s n × NoneOkay s n × Counts s t)
  found_means n t = (to, from)
    where
      to : r ≡ Ok (Found n t) → (n < limit) × JudgedOkay s n × NoneOkay s n × Counts s t
      to e =
          let x = tells s limit r met e in
          let m = x.book in
          let p = (found_exact m limit n t).0 x.is in
          (p.0, to_judged s h m x.reads n p.1 p.2, none_judged s h m x.reads n p.3, counts_of m x.reads p.4)

      from : (n < limit) × JudgedOkay s n × NoneOkay s n × Counts s t → r ≡ Ok (Found n t)
      from p =
          let c = p.3 in
          let j = from_judged s h c.book (reads_as c) n p.1 in
          let below = judged_none s h c.book (reads_as c) n (omega (arith, j.0)) p.2 in
          searched c ((found_exact c.book limit n t).1 (p.0, j.0, j.1, below, c.is))

  pub none_means : (t : ℕ) → (r ≡ Ok (None t)) ↔ ((t ≤ limit) × ((k : ℕ) → JudgedOkay s k → ⊥) × Counts s t)
  none_means t = (to, from)
    where
      to : r ≡ Ok (None t) → (t ≤ limit) × ((k : ℕ) → JudgedOkay s k → ⊥) × Counts s t
      to e =
          let x = tells s limit r met e in
          let m = x.book in
          let p = (none_exact m limit t).0 x.is in
          let none = none_judged s h m x.reads (choices m) p.1 in
          (omega (arith, p.0, p.2), (λ k j. none k (from_judged s h m x.reads k j).0 j), counts_of m x.reads p.2)

      from : (t ≤ limit) × ((k : ℕ) → JudgedOkay s k → ⊥) × Counts s t → r ≡ Ok (None t)
      from p =
          let c = p.2 in
          let all = judged_none s h c.book (reads_as c) (choices c.book) (omega arith) (λ k l. p.1 k) in
          searched c ((none_exact c.book limit t).1 (omega (arith, p.0, c.is), all, c.is))

  pub more_means : (b t : ℕ) → (r ≡ Ok (More b t)) ↔ ((limit < t) × NoneOkay s limit × (b ≡ limit) × Counts s t)
  more_means b t = (to, from)
    where
      to : r ≡ Ok (More b t) → (limit < t) × NoneOkay s limit × (b ≡ limit) × Counts s t
      to e =
          let x = tells s limit r met e in
          let m = x.book in
          let p = (more_exact m limit b t).0 x.is in
          (omega (arith, p.0, p.3), none_judged s h m x.reads limit p.1, p.2, counts_of m x.reads p.3)

      from : (limit < t) × NoneOkay s limit × (b ≡ limit) × Counts s t → r ≡ Ok (More b t)
      from p =
          let c = p.3 in
          let within : limit < choices c.book = omega (arith, p.0, c.is) in
          let below = judged_none s h c.book (reads_as c) limit (omega (arith, within)) p.1 in
          searched c ((more_exact c.book limit b t).1 (within, below, p.2, c.is))

  -- so no span is over in a choice that was found, and it survives, in both forms
  pub found_survives : {n t : ℕ} → r ≡ Ok (Found n t) → Meets Survives s n × Meets CutForm s n
  found_survives {n} {t} e =
      let p = (found_means n t).0 e in
      let v : Result Judged Refusal = judged_of (chosen_of (reading s) n) in
      ((okay_joined s n h v refl).0 p.1, (okay_means s n h v refl).0 p.1)
