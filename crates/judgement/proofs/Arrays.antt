-- THE VERDICT OF THE ARRAYS is the verdict of the book that they hold: its loads, limits and sides are the book's, span by span.
-- So whoever has a book in memory can have it judged without its bytes.
use Prim.Native.Nat.{ℕ, ◌<◌}
use mathlib.Core.Path.{◌≡◌, refl, ap, ap₂, ◌∙◌}
use mathlib.Core.Bool.{true, cond, not}
use native.Mathlib.Decide.{dec_lt}
use native.Mathlib.Omega.{arith}
use lib.ListN.{length}
use lib.Dec.{eqb, ltb}
use borrow.Author.Tests.{lt-ltb, le-ltb}
use Rattle.book.specs.declared.Book.{Book}
use Rattle.book.specs.Book.{RouteBook, well_formed}
use Rattle.book.specs.Memory.{book_of}
use Rattle.book.proofs.Bounds.{counts}
use Rattle.judgement.specs.declared.Verdict.{Verdict}
use Rattle.judgement.specs.declared.Verdict.TheVariants.{Over, Split, Cut, Okay}
use Rattle.judgement.specs.Judgement.{load, limit, without, stations, lowest, side, whole, first_of, cut_or_okay, split_or, verdict}
use Rattle.judgement.specs.Arrays.{load_in, limit_in, up_in, side_by, cut_or_okay_in, split_or_in, over_or_in, verdict_in}
use Rattle.judgement.proofs.First.{first_alike}
use Rattle.judgement.proofs.Usable.{book_usable}
use Rattle.judgement.proofs.Loads.{load-in}
use Rattle.judgement.proofs.Excess.{limit-in}
use Rattle.judgement.proofs.Held.{side_low, side_high, side_up}

module _ (m : RouteBook) (fits : well_formed m ≡ true) where
  abbrev held : Book
  held = book_of m

  -- the side with span x out
  pub side_in : {b : Book} → b ≡ book_of m → (x : ℕ) → x < 128 → side_by b (up_in b x) ≡ side m (without m x)
  side_in e x l = ap (λ (y : Book). side_by y (up_in y x)) e ∙ go (dec_lt x 64)
    where
      go : Dec (x < 64) → side_by held (up_in held x) ≡ side m (without m x)
      go (yes h) = rw (lt-ltb x 64 h) (side_low m refl (lowest m) x h)
      go (no h) = rw (le-ltb x 64 (omega arith)) (side_high m refl (lowest m) x (omega arith) l)

  cut_in : cut_or_okay_in held ≡ cut_or_okay m
  cut_in = first_alike (λ x. not (eqb (side_by held (up_in held x)) (stations m))) (λ x. not (whole m (without m x))) (λ x. Cut x (side_by held (up_in held x))) (λ x. Cut x (side m (without m x))) Okay (length m.spans) 0
      (λ x p q. let e = side_in refl x (omega (arith, counts m fits)) in (ap (λ (d : ℕ). not (eqb d (stations m))) e, ap (Cut x) e))

  split_in : split_or_in held ≡ split_or m
  split_in = ap₂ (λ (v : Verdict) (d : ℕ). cond (eqb d (stations m)) v (Split d)) cut_in (side_up m refl (lowest m))

  pub over_in : {b : Book} → b ≡ book_of m → over_or_in b ≡ verdict m
  over_in e =
      ap over_or_in e
      ∙ ap (λ (v : Verdict). first_of (λ x. ltb (limit_in held x) (load_in held x)) (λ x. Over x (load_in held x) (limit_in held x)) v (length m.spans) 0) split_in
      ∙ first_alike (λ x. ltb (limit_in held x) (load_in held x)) (λ x. ltb (limit m x) (load m x)) (λ x. Over x (load_in held x) (limit_in held x)) (λ x. Over x (load m x) (limit m x)) (split_or m) (length m.spans) 0
      (λ x p q. (ap₂ ltb (limit-in m x) (load-in m fits x), ap₂ (Over x) (load-in m fits x) (limit-in m x)))

  -- THE LAW
  pub verdict-in : {b : Book} → b ≡ book_of m → verdict_in b ≡ verdict m
  verdict-in e = ap verdict_in e ∙ rw (book_usable m fits refl).is (over_in refl)
