-- A word digit by digit: what the digits so far are worth, taken on with the bytes that are left, is what the word is worth, and is never less.
use Prim.Native.Nat.{ℕ, zero, suc, ◌+◌, ◌-◌, ◌*◌, ◌/◌, ◌%◌, ◌^◌, ◌≤◌, ◌<◌}
use mathlib.Core.Path.{◌≡◌, refl, sym, ap, ◌∙◌}
use mathlib.Core.Bool.{Bool, true, false, cond}
use mathlib.Core.List.{List, [], ◌∷◌, ◌++◌}
use mathlib.Core.Logic.{◌↔◌}
use native.Mathlib.Nat.{mod-lt}
use native.Mathlib.Omega.{arith}
use native.Mathlib.Numerals.{add-one}
use borrow.Author.Rules.{rules}
use lib.ListN.{length, get_or, drop}
use lib.Seq.{drop-cons}
use Rattle.std.proofs.lemmas.List.{drop_all}
use borrow.Author.Tests.{ltb-true, ltb-false, lt-ltb, le-ltb}
use Rattle.std.specs.Prelude.{Option, Some, None, Ok, Err}
use Rattle.std.specs.Char.{is_ascii_digit}
use Rattle.book.proofs.Tests.{and_inv, and_both}
use Rattle.listing.specs.Text.{glyph, spelled, width, decimal, digit_of, worth_from, worth}
use Rattle.listing.specs.Number.{all_digits, fits32, parsed}
use Rattle.listing.specs.Inside.{with_digit}
use Rattle.listing.specs.declared.number.NotNumber.TheVariants.{NotDigits, TooGreat}
use Rattle.listing.proofs.Spelling.{width_pos, spelled_long, decimal_worth}

module _ (w : List ℕ) where
  pub worth_next : (n i : ℕ) → i < length w → worth_from 10 n (drop i w) ≡ worth_from 10 (10 * n + digit_of (get_or w i 0)) (drop (i + 1) w)
  unfolding worth_from
  worth_next n i l = ap (worth_from 10 n) (drop-cons w i 0 l) ∙ ap (λ (j : ℕ). worth_from 10 (10 * n + digit_of (get_or w i 0)) (drop j w)) (sym (add-one i))

  pub worth_done : (n i : ℕ) → length w ≤ i → worth_from 10 n (drop i w) ≡ n
  unfolding worth_from
  worth_done n i h = ap (worth_from 10 n) (drop_all i w h)

pub worth_least : (n : ℕ) (cs : List ℕ) → n ≤ worth_from 10 n cs
unfolding worth_from
worth_least n [] = omega arith
worth_least n (c ∷ cs) = omega (arith, worth_least (10 * n + digit_of c) cs)

-- the worth of a digit is what is above 48
pub digit_is : (c : ℕ) → is_ascii_digit c ≡ true → digit_of c ≡ c - 48
digit_is c e = search rules

-- a digit more fits, or it does not
pub with_fits : (n c : ℕ) {x : ℕ} → Some x ≡ with_digit n c → (x < 2 ^ 32) × (x ≡ 10 * n + (c - 48))
with_fits n c {x} e = go (fits32 (10 * n + (c - 48))) refl e
  where
    go : (t : Bool) → fits32 (10 * n + (c - 48)) ≡ t → ◌≡◌ {A = Option ℕ} (Some x) (cond t (Some (10 * n + (c - 48))) None) → (x < 2 ^ 32) × (x ≡ 10 * n + (c - 48))
    go true q w = let same : x ≡ 10 * n + (c - 48) = cc in (omega (arith, same, ltb-true (10 * n + (c - 48)) 4294967296 q), same)
    go false q w = absurd cc

pub with_great : (n c : ℕ) → None ≡ with_digit n c → 2 ^ 32 ≤ 10 * n + (c - 48)
with_great n c e = go (fits32 (10 * n + (c - 48))) refl e
  where
    go : (t : Bool) → fits32 (10 * n + (c - 48)) ≡ t → ◌≡◌ {A = Option ℕ} None (cond t (Some (10 * n + (c - 48))) None) → 2 ^ 32 ≤ 10 * n + (c - 48)
    go true q w = absurd cc
    go false q w = ltb-false (10 * n + (c - 48)) 4294967296 q

-- WHAT IS A NUMBER: a word of digits and nothing else, worth less than 2 to the power 32; and its worth is what it is
abbrev pub Writes : List ℕ → ℕ → Type 0
Writes w n = (0 < length w) × (all_digits w ≡ true) × (worth 10 w ≡ n) × (n < 2 ^ 32)

number_only : (w : List ℕ) (n : ℕ) → parsed w ≡ Ok n → Writes w n
number_only [] n e = absurd cc
number_only (c ∷ cs) n e = go (all_digits (c ∷ cs)) refl (fits32 (worth 10 (c ∷ cs))) refl e
  where
    go : (a : Bool) → all_digits (c ∷ cs) ≡ a → (f : Bool) → fits32 (worth 10 (c ∷ cs)) ≡ f
        → cond a (cond f (Ok (worth 10 (c ∷ cs))) (Err TooGreat)) (Err NotDigits) ≡ Ok n → Writes (c ∷ cs) n
    go true p true q z = let same : worth 10 (c ∷ cs) ≡ n = cc in (omega arith, p, same, omega (arith, same, ltb-true (worth 10 (c ∷ cs)) 4294967296 q))
    go true p false q z = absurd cc
    go false p f q z = absurd cc

number_back : (w : List ℕ) (n : ℕ) → Writes w n → parsed w ≡ Ok n
number_back [] n h = absurd (omega (arith, h.0))
number_back (c ∷ cs) n h =
    ap (λ (a : Bool). cond a (cond (fits32 (worth 10 (c ∷ cs))) (Ok (worth 10 (c ∷ cs))) (Err TooGreat)) (Err NotDigits)) h.1
    ∙ ap (λ (x : ℕ). cond (fits32 x) (Ok x) (Err TooGreat)) h.2
    ∙ ap (λ (f : Bool). cond f (Ok n) (Err TooGreat)) (lt-ltb n 4294967296 h.3)

pub number_exact : (w : List ℕ) (n : ℕ) → (parsed w ≡ Ok n) ↔ Writes w n
number_exact w n = (number_only w n, number_back w n)

-- and digits that are worth too much are none
pub too_great : (w : List ℕ) → 0 < length w → all_digits w ≡ true → 2 ^ 32 ≤ worth 10 w → Err TooGreat ≡ parsed w
too_great [] h e l = absurd (omega arith)
too_great (c ∷ cs) h e l = rw (e, le-ltb (worth 10 (c ∷ cs)) 4294967296 l) refl

-- and a number as it is printed is that number when it is typed
all_both : (xs ys : List ℕ) → all_digits xs ≡ true → all_digits ys ≡ true → all_digits (xs ++ ys) ≡ true
all_both [] ys p q = q
all_both (x ∷ xs) ys p q = let a = and_inv {a = is_ascii_digit x} p in and_both a.0 (all_both xs ys a.1 q)

spelled_digits : (k n : ℕ) → all_digits (spelled 10 k n) ≡ true
unfolding spelled
spelled_digits zero n = refl
spelled_digits (suc k) n = all_both (spelled 10 k (n / 10)) (glyph (n % 10) ∷ []) (spelled_digits k (n / 10)) (last (n % 10) (mod-lt n (omega arith)))
  where
    last : (d : ℕ) → d < 10 → all_digits (glyph d ∷ []) ≡ true
    last d l = search rules

pub printed_parsed : (n : ℕ) → n < 2 ^ 32 → parsed (decimal n) ≡ Ok n
printed_parsed n l =
    number_back (decimal n) n (omega (arith, spelled_long 10 (width n) n, width_pos n), spelled_digits (width n) n, decimal_worth n (omega arith), l)
