-- THE LOOP OF THE SEARCH: after n trials the choice at hand has the number n, and the first acceptable choice of all is the first of those left.
-- Stepping the digits of n gives those of n + 1, so no choice is made from its number but the first.
use Prim.Native.Nat.{ℕ, ◌+◌, ◌≤◌, ◌<◌, min}
use mathlib.Core.Path.{◌≡◌, sym, ap, ◌∙◌}
use mathlib.Core.Bool.{true, false}
use native.Mathlib.Omega.{arith}
use Rattle.book.specs.declared.Book.{Book}
use Rattle.book.specs.declared.choice.Movables.{Movables}
use Rattle.book.specs.declared.choice.Choice.{Choice}
use Rattle.book.specs.Book.{RouteBook, well_formed}
use Rattle.book.specs.Memory.{book_of}
use Rattle.book.specs.Choice.{product, choices, chosen, stepped}
use Rattle.book.specs.Moving.{movables_in, sizes_in, choice_in}
use Rattle.book.proofs.Choices.{next_in}
use Rattle.book.proofs.Chosen.{choice_fits}
use Rattle.book.proofs.Written.{total_is, chosen_is}
use Rattle.judgement.specs.Judgement.{is_okay}
use Rattle.judgement.proofs.Arrays.{verdict-in}
use Rattle.judgement.proofs.First.{Looking, looking_start, looking_next, looking_hit, looking_end}
use Rattle.search.specs.declared.Finding.TheVariants.{Found, None, More}
use Rattle.search.specs.Search.{acceptable_at, found_at, unfound, finding}
use Rattle.search.specs.Inside.{acceptable_in}
use Rattle.search.proofs.Findings.{left_none, left_more}

-- what is made once, before the first trial
pub record Ready (b : Book) (limit : ℕ) (w : Movables) (total end : ℕ) : Type 0 where
  pub movables : w ≡ movables_in b
  pub all : total ≡ product (sizes_in w)
  pub lesser : end ≡ min limit total

-- what it is for the book that b holds
module _ {b : Book} {limit : ℕ} {w : Movables} {total end : ℕ} (r : Ready b limit w total end)
    (m : RouteBook) (held : b ≡ book_of m) (fits : well_formed m ≡ true) where
  total_of : total ≡ choices m
  total_of = r.all ∙ ap (λ (v : Movables). product (sizes_in v)) r.movables ∙ total_is m held fits

  end_of : end ≡ min limit (choices m)
  end_of = r.lesser ∙ ap (min limit) total_of

  -- a trial of the struct is a trial of the book
  tried : {c : Choice} (n : ℕ) → c ≡ choice_in w n → acceptable_in b w c ≡ acceptable_at m n
  tried {c} n e =
      ap (acceptable_in b w) e ∙ ap (λ (v : Movables). acceptable_in b v (choice_in v n)) r.movables
      ∙ ap is_okay (verdict-in (chosen m n) (choice_fits m n fits) (chosen_is m held fits n))

-- the numbers from n on are left to be tried
abbrev pub Left : RouteBook → ℕ → ℕ → Type 0
Left m limit n = Looking (acceptable_at m) (found_at m) (unfound m limit) (min limit (choices m)) n

-- after n trials: which choice comes next, and what is left in the book that b holds
pub record Trying (b : Book) (limit : ℕ) (w : Movables) (total end : ℕ) (c : Choice) (n : ℕ) : Type 0 where
  pub ready : Ready b limit w total end
  pub at : c ≡ choice_in w n
  pub left : (m : RouteBook) → b ≡ book_of m → well_formed m ≡ true → Left m limit n

module _ {b : Book} {limit : ℕ} {w : Movables} {total end : ℕ} {c : Choice} where
  pub trying_start : Ready b limit w total end → c ≡ choice_in w 0 → Trying b limit w total end c 0
  trying_start r e = record {
    ready = r;
    at = e;
    left = λ m held fits. looking_start (acceptable_at m) (found_at m) (unfound m limit) (min limit (choices m));
  }

  module _ {n : ℕ} (now : Trying b limit w total end c n) where
    below : n < end → (m : RouteBook) → b ≡ book_of m → well_formed m ≡ true → n < min limit (choices m)
    below l m held fits = omega (arith, end_of now.ready m held fits)

    test : (m : RouteBook) → b ≡ book_of m → well_formed m ≡ true → acceptable_at m n ≡ acceptable_in b w c
    test m held fits = sym (tried now.ready m held fits n now.at)

    pub trying_next : n < end → acceptable_in b w c ≡ false → Trying b limit w total end (record { digits = stepped (sizes_in w) c.digits }) (n + 1)
    trying_next l e = record {
      ready = now.ready;
      at = ap (λ (x : Choice). record { digits = stepped (sizes_in w) x.digits }) now.at ∙ rw (next_in w n);
      left = λ m held fits. looking_next (acceptable_at m) (found_at m) (unfound m limit) (now.left m held fits) (below l m held fits) (test m held fits ∙ e);
    }

    -- the three answers
    module _ (m : RouteBook) (held : b ≡ book_of m) (fits : well_formed m ≡ true) where
      all_of : total ≡ choices m
      all_of = total_of now.ready m held fits

      pub trying_found : n < end → acceptable_in b w c ≡ true → Found n total ≡ finding m limit
      trying_found l e =
          ap (Found n) all_of
          ∙ sym (looking_hit (acceptable_at m) (found_at m) (unfound m limit) (now.left m held fits) (below l m held fits) (test m held fits ∙ e))

      out : end ≤ n → unfound m limit ≡ finding m limit
      out l = sym (looking_end (acceptable_at m) (found_at m) (unfound m limit) (now.left m held fits) (omega (arith, end_of now.ready m held fits)))

      pub trying_none : end ≤ n → total ≤ limit → None total ≡ finding m limit
      trying_none l e = ap None all_of ∙ left_none m limit (omega (arith, all_of)) ∙ out l

      pub trying_more : end ≤ n → limit < total → More limit total ≡ finding m limit
      trying_more l e = ap (More limit) all_of ∙ left_more m limit (omega (arith, all_of)) ∙ out l
