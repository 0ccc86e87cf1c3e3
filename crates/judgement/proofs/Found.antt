-- The verdict in parts: what the code finds among the spans below 64 and among the others is what one search over all spans finds.
-- A span that is found is the answer, and else what comes after.
use Prim.Native.Nat.{ℕ, ◌+◌, ◌-◌, ◌<◌, min}
use mathlib.Core.Path.{◌≡◌, refl, sym, ap, ◌∙◌}
use mathlib.Core.List.{List}
use mathlib.Core.Bool.{Bool, true, false, cond, not}
use native.Mathlib.Omega.{arith}
use lib.Dec.{eqb, ltb}
use borrow.Author.Tests.{eq-eqb, ne_eqb, lt-ltb, le-ltb}
use Rattle.book.specs.declared.Book.{Book}
use Rattle.judgement.specs.declared.Verdict.{Verdict}
use Rattle.judgement.specs.declared.Verdict.TheVariants.{Over, Split, Cut, Okay}
use Rattle.judgement.specs.declared.kind.Parted.{Parted}
use Rattle.judgement.specs.declared.load.Overload.{Overload}
use Rattle.judgement.specs.Network.{side_of}
use Rattle.judgement.specs.Judgement.{all_up, first_of}
use Rattle.judgement.specs.Arrays.{lowest_in, up_in, side_by, cut_or_okay_in, split_or_in, over_or_in}
use Rattle.std.specs.Prelude.{Option, Some, None}
use Rattle.std.specs.Option.{option_or}
use Rattle.judgement.specs.Holding.{is_over, over_in}
use Rattle.judgement.specs.Inside.{net_of, unset, side_in, parts_in, cut_in, cut_or}
use Rattle.judgement.proofs.First.{first_alike, first_map, first_shift, first_parts}

module _ (b : Book) where
  abbrev parts : ℕ → Bool
  parts x = not (eqb (side_by b (up_in b x)) b.stations)

  abbrev cut : ℕ → Verdict
  cut x = Cut x (side_by b (up_in b x))

  -- with span x out the side is that of its word
  out_of : (x : ℕ) (t : Bool) → ltb x 64 ≡ t → side_of (net_of b.lightpaths b.from b.to) (cond t (unset b.low x) (unset b.high (x - 64))) 64 (lowest_in b) ≡ side_by b (up_in b x)
  out_of x t e = sym (ap (λ (u : Bool). side_of (net_of b.lightpaths b.from b.to) (cond u (unset b.low x) (unset b.high (x - 64))) 64 (lowest_in b)) e)

  -- the search over one word is the search over its spans
  word_cut : (words : List ℕ) (base count : ℕ) (out : Verdict) → ((i : ℕ) → i < count → side_in b words i ≡ side_by b (up_in b (base + i)))
      → cut_or out (first_of (parts_in b words) (cut_in b words base) None count 0) ≡ first_of (λ i. parts (base + i)) (λ i. cut (base + i)) out count 0
  word_cut words base count out same =
      first_map (cut_or out) (parts_in b words) (cut_in b words base) None count 0
      ∙ first_alike (parts_in b words) (λ i. parts (base + i)) (λ i. Cut (base + i) (side_in b words i)) (λ i. cut (base + i)) out count 0
      (λ i l u. let is = same i (omega arith) in (ap (λ (x : ℕ). not (eqb x b.stations)) is, ap (Cut (base + i)) is))

  pub cut_is : (p q : Option Parted) → p ≡ first_of (parts_in b b.low) (cut_in b b.low 0) None (min b.spans 64) 0
      → q ≡ first_of (parts_in b b.high) (cut_in b b.high 64) None (b.spans - min b.spans 64) 0 → cut_or (cut_or Okay q) p ≡ cut_or_okay_in b
  cut_is p q hp hq =
      let a = min b.spans 64 in
      let c = b.spans - min b.spans 64 in
      let sum : b.spans ≡ a + c = omega arith in
      let low : cut_or (cut_or Okay q) p ≡ first_of parts cut (cut_or Okay q) a 0 =
      ap (cut_or (cut_or Okay q)) hp
      ∙ word_cut b.low 0 a (cut_or Okay q) (λ i l. let i0 : i ≡ 0 + i = omega arith in out_of i true (lt-ltb i 64 (omega arith)) ∙ ap (λ (x : ℕ). side_by b (up_in b x)) i0)
      ∙ sym (first_shift parts cut (cut_or Okay q) 0 a 0)
      in
      let high : cut_or Okay q ≡ first_of parts cut Okay c (a + 0) =
      ap (cut_or Okay) hq
      ∙ word_cut b.high 64 c Okay (λ i l. let i0 : 64 + i - 64 ≡ i = omega arith in sym (ap (side_in b b.high) i0) ∙ out_of (64 + i) false (le-ltb (64 + i) 64 (omega arith)))
      ∙ first_alike (λ i. parts (64 + i)) (λ i. parts (a + i)) (λ i. cut (64 + i)) (λ i. cut (a + i)) Okay c 0 (λ i l u. let k : 64 + i ≡ a + i = omega arith in (ap parts k, ap cut k))
      ∙ sym (first_shift parts cut Okay a c 0)
      in
      low ∙ ap (λ (v : Verdict). first_of parts cut v a 0) high ∙ sym (ap (λ (d : ℕ). first_of parts cut Okay d 0) sum ∙ first_parts parts cut Okay a c 0)

-- a span that is found in the first search, or else in the second
pub cut_either : (out : Verdict) (p q : Option Parted) → cut_or out (option_or p q) ≡ cut_or (cut_or out q) p
cut_either out None q = refl
cut_either out (Some x) q = refl

-- SPLIT, or not
module _ (b : Book) {d : ℕ} (side_is : d ≡ side_by b all_up) where
  pub is_split : (d ≡ b.stations → ⊥) → Split d ≡ split_or_in b
  is_split n = rw (ne_eqb (side_by b all_up) b.stations (λ q. n (side_is ∙ q))) (ap Split side_is)

  pub not_split : d ≡ b.stations → cut_or_okay_in b ≡ split_or_in b
  not_split q = sym (rw (eq-eqb (side_by b all_up) b.stations (sym side_is ∙ q)))

-- OVER at the span that was found, or else the verdict `out`
abbrev pub over_or : Verdict → Option Overload → Verdict
over_or out (Some o) = Over o.span o.load o.limit
over_or out None = out

pub over_is : (b : Book) (p : Option Overload) → p ≡ first_of (is_over b) (over_in b) None b.spans 0 → over_or (split_or_in b) p ≡ over_or_in b
over_is b p h = ap (over_or (split_or_in b)) h ∙ first_map (over_or (split_or_in b)) (is_over b) (over_in b) None b.spans 0
