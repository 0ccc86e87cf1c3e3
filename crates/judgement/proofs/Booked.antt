-- A SET OF SPANS AS TWO WORDS: a shift of each tells whether the set holds a number beyond the last span, and a lightpath's words share no bit with
-- the set's exactly if its route holds none of the set.
use Prim.Native.Nat.{ℕ, ◌+◌, ◌-◌, ◌*◌, ◌^◌, ◌<◌, ◌≤◌, min}
use mathlib.Core.Path.{◌≡◌, refl, sym, ap, ◌∙◌, subst}
use mathlib.Core.List.{List, [], ◌∷◌}
use mathlib.Core.Logic.{◌↔◌}
use mathlib.Core.Bool.{Bool, true, false, not, ◌||◌, false≢true}
use native.Mathlib.Decide.{dec_lt, ℕ_discrete}
use native.Mathlib.Omega.{arith}
use lib.Dec.{eqb, ltb}
use lib.ListN.{length, get_or}
use lib.Bits.{bit_and, bit_or}
use lib.Pow.{pow_mono}
use borrow.Author.Tests.{eq-eqb, ne_eqb, lt-ltb, le-ltb, eqb-true, not-true}
use Rattle.book.specs.declared.Book.{Book}
use Rattle.book.specs.Bits.{has}
use Rattle.book.specs.Book.{RouteBook, among}
use Rattle.book.specs.Choice.{lightpath_at}
use Rattle.book.specs.Memory.{book_of}
use Rattle.book.proofs.Bits.{true_has, has_false, has_true}
use Rattle.book.proofs.Tests.{and_inv, and_both}
use Rattle.book.proofs.Words.{low_has, high_has}
use Rattle.judgement.specs.Judgement.{lowest, side}
use Rattle.judgement.specs.Arrays.{side_by}
use Rattle.judgement.specs.Inside.{clear}
use Rattle.judgement.specs.Withdrawn.{none_of, up_with, in_words, beyond}
use Rattle.judgement.proofs.Sets.{lacks_bit, none_shared, shared_none, neither, or_none, bit_le_set, bits_below}
use Rattle.judgement.proofs.First.{First, there, nowhere, first, first_only}
use Rattle.judgement.proofs.Held.{alike, route_rides}

-- a set that holds nothing beyond n, number by number
module _ (booked : ℕ → Bool) (n : ℕ) where
  pub none_beyond : ((x : ℕ) → n ≤ x → x < 128 → booked x ≡ false) → beyond booked n ≡ false
  none_beyond f = sym (first_only booked (λ x. true) false (128 - n) n (nowhere (λ x a b. f x a (omega (arith, a, b)))))

  pub beyond_none : beyond booked n ≡ false → (x : ℕ) → n ≤ x → x < 128 → booked x ≡ false
  beyond_none e x a b = go (first booked (λ x. true) false (128 - n) n) e
    where
      go : {r : Bool} → First booked (λ x. true) false (128 - n) n r → r ≡ false → booked x ≡ false
      go (there y c d h low) z = absurd (false≢true (sym z))
      go (nowhere f) z = f x a (omega (arith, a, b))

-- none of a route is in a set exactly if whatever is in the route is not
pub none_in : (booked : ℕ → Bool) (xs : List ℕ) → ((x : ℕ) → among x xs ≡ true → booked x ≡ false) → none_of booked xs ≡ true
unfolding none_of
none_in booked [] f = refl
none_in booked (x ∷ xs) f =
    and_both (ap not (f x (rw (eq-eqb x x refl)))) (none_in booked xs (λ y h. f y (or_right (eqb y x) h)))
  where
    or_right : (a : Bool) {b : Bool} → b ≡ true → (a || b) ≡ true
    or_right true e = refl
    or_right false e = e

pub in_none : (booked : ℕ → Bool) (xs : List ℕ) → none_of booked xs ≡ true → (x : ℕ) → among x xs ≡ true → booked x ≡ false
unfolding none_of
in_none booked [] e x h = absurd (false≢true h)
in_none booked (y ∷ ys) e x h =
    let p = and_inv {a = not (booked y)} e in
    go (not-true (booked y) p.0) (in_none booked ys p.1 x) (eqb x y) refl h
  where
    go : booked y ≡ false → (among x ys ≡ true → booked x ≡ false) → (t : Bool) → eqb x y ≡ t → (t || among x ys) ≡ true → booked x ≡ false
    go p rest true q w = ap booked (eqb-true x y q) ∙ p
    go p rest false q w = rest w

module _ (low high : ℕ) where
  pub in_low : (x : ℕ) → x < 64 → in_words low high x ≡ has low x
  in_low x l = rw (lt-ltb x 64 l)

  pub in_high : (x : ℕ) → 64 ≤ x → in_words low high x ≡ has high (x - 64)
  in_high x l = rw (le-ltb x 64 l)

  at_high : (i : ℕ) → has high i ≡ in_words low high (64 + i)
  at_high i = let y : i ≡ 64 + i - 64 = omega arith in ap (has high) y ∙ sym (in_high (64 + i) (omega arith))

module _ {low high : ℕ} (p : low < 2 ^ 64) (q : high < 2 ^ 64) where
  -- two words hold no number from 128 on
  past_all : (x : ℕ) → 128 ≤ x → in_words low high x ≡ false
  past_all x l = in_high low high x (omega (arith, l)) ∙ go (has high (x - 64)) refl
    where
      go : (t : Bool) → has high (x - 64) ≡ t → t ≡ false
      go true e = absurd (omega (arith, q, bit_le_set high (x - 64) (true_has high (x - 64) e), pow_mono {i = 64} {j = x - 64} (omega (arith, l))))
      go false e = refl

  -- so what is not beyond n is below it, whichever it is
  pub beyond_exact : (n : ℕ) → (beyond (in_words low high) n ≡ false) ↔ ((x : ℕ) → in_words low high x ≡ true → x < n)
  beyond_exact n = (
    (λ e x h. elim (dec_lt x n) [ yes l ↦ l | no k ↦ absurd (false≢true (sym (none e x (omega (arith, k)) (dec_lt x 128)) ∙ h)) ]),
    (λ f. none_beyond (in_words low high) n (λ x a b. lacking f x a (in_words low high x) refl)),
  )
    where
      none : beyond (in_words low high) n ≡ false → (x : ℕ) → n ≤ x → Dec (x < 128) → in_words low high x ≡ false
      none e x a (yes l) = beyond_none (in_words low high) n e x a l
      none e x a (no k) = past_all x (omega (arith, k))

      lacking : ((x : ℕ) → in_words low high x ≡ true → x < n) → (x : ℕ) → n ≤ x → (t : Bool) → in_words low high x ≡ t → t ≡ false
      lacking f x a true h = absurd (omega (arith, a, f x h))
      lacking f x a false h = refl

  -- THE LAW of the two shifts
  pub beyond_words : (n : ℕ) → n ≤ 128 → (not (ltb low (2 ^ n)) || not (ltb high (2 ^ (n - min n 64)))) ≡ beyond (in_words low high) n
  beyond_words n few = go (first (in_words low high) (λ x. true) false (128 - n) n)
    where
      rest : ℕ
      rest = n - min n 64

      or_true : (a : Bool) → (a || true) ≡ true
      or_true true = refl
      or_true false = refl

      held : (x : ℕ) → n ≤ x → in_words low high x ≡ true → Dec (x < 64) → (not (ltb low (2 ^ n)) || not (ltb high (2 ^ rest))) ≡ true
      held x a h (yes l) =
          let most = bit_le_set low x (true_has low x (sym (in_low low high x l) ∙ h)) in
          rw (le-ltb low (2 ^ n) (omega (arith, most, pow_mono {i = n} {j = x} a)))
      held x a h (no k) =
          let most = bit_le_set high (x - 64) (true_has high (x - 64) (sym (in_high low high x (omega (arith, k))) ∙ h)) in
          rw (le-ltb high (2 ^ rest) (omega (arith, most, pow_mono {i = rest} {j = x - 64} (omega (arith, a, k))))) (or_true (not (ltb low (2 ^ n))))

      low_all : ((x : ℕ) → n ≤ x → x < n + (128 - n) → in_words low high x ≡ false) → Dec (n < 64) → low < 2 ^ n
      low_all f (yes l) =
          let z : 64 ≡ n + (64 - n) = omega (arith, l) in
          bits_below n (64 - n) low (subst (λ (k : ℕ). low < 2 ^ k) z p)
          (λ i a b. lacks_bit low i (sym (in_low low high i (omega (arith, b, l))) ∙ f i a (omega (arith, b, l))))
      low_all f (no k) = omega (arith, p, pow_mono {i = 64} {j = n} (omega (arith, k)))

      high_all : ((x : ℕ) → n ≤ x → x < n + (128 - n) → in_words low high x ≡ false) → high < 2 ^ rest
      high_all f =
          let z : 64 ≡ rest + (64 - rest) = omega (arith, few) in
          bits_below rest (64 - rest) high (subst (λ (k : ℕ). high < 2 ^ k) z q)
          (λ i a b. lacks_bit high i (at_high low high i ∙ f (64 + i) (omega (arith, a)) (omega (arith, b, few))))

      go : {r : Bool} → First (in_words low high) (λ x. true) false (128 - n) n r → (not (ltb low (2 ^ n)) || not (ltb high (2 ^ rest))) ≡ r
      go (there x a b h less) = held x a h (dec_lt x 64)
      go (nowhere f) = rw (lt-ltb low (2 ^ n) (low_all f (dec_lt n 64)), lt-ltb high (2 ^ rest) (high_all f))

  -- THE LAW of the shared bits
  module _ (m : RouteBook) (k : ℕ) (l : k < length m.lightpaths) where
    abbrev lows : ℕ
    lows = get_or (book_of m).low k 0

    abbrev highs : ℕ
    highs = get_or (book_of m).high k 0

    abbrev route : List ℕ
    route = (lightpath_at m.lightpaths k).route.spans

    low_rides : (i : ℕ) → i < 64 → has lows i ≡ among i route
    low_rides i b = low_has m k i b ∙ route_rides m i (64 * 0 + i) k l (omega arith)

    high_rides : (i : ℕ) → i < 64 → has highs i ≡ among (64 + i) route
    high_rides i b = high_has m k i b ∙ route_rides m (64 + i) (64 * 1 + i) k l (omega arith)

    clear_none : bit_or (bit_and lows low) (bit_and highs high) ≡ 0 → (x : ℕ) → among x route ≡ true → in_words low high x ≡ false
    clear_none e x h = go (dec_lt x 64) (dec_lt x 128)
      where
        go : Dec (x < 64) → Dec (x < 128) → in_words low high x ≡ false
        go (yes b) _ =
            in_low low high x b
            ∙ has_false low x (none_shared lows low (neither (bit_and lows low) (bit_and highs high) e).0 x (true_has lows x (low_rides x b ∙ h)))
        go (no b) (yes c) =
            let y : 64 + (x - 64) ≡ x = omega (arith, b) in
            in_high low high x (omega (arith, b))
            ∙ has_false high (x - 64) (none_shared highs high (neither (bit_and lows low) (bit_and highs high) e).1 (x - 64)
            (true_has highs (x - 64) (high_rides (x - 64) (omega (arith, c)) ∙ ap (λ (i : ℕ). among i route) y ∙ h)))
        go (no b) (no c) = past_all x (omega (arith, c))

    none_clear : none_of (in_words low high) route ≡ true → bit_or (bit_and lows low) (bit_and highs high) ≡ 0
    none_clear e = or_none (bit_and lows low) (bit_and highs high)
        (shared_none 64 lows low p (λ i b h. lacks_bit low i (sym (in_low low high i b) ∙ out i (sym (low_rides i b) ∙ has_true lows i h))))
        (shared_none 64 highs high q (λ i b h. lacks_bit high i (at_high low high i ∙ out (64 + i) (sym (high_rides i b) ∙ has_true highs i h))))
      where
        out : (x : ℕ) → among x route ≡ true → in_words low high x ≡ false
        out = in_none (in_words low high) route e

    pub clear_up : clear (book_of m).low (book_of m).high low high k ≡ up_with m (in_words low high) k
    clear_up = go (ℕ_discrete (bit_or (bit_and lows low) (bit_and highs high)) 0) (none_of (in_words low high) route) refl
      where
        go : Dec (bit_or (bit_and lows low) (bit_and highs high) ≡ 0) → (t : Bool) → none_of (in_words low high) route ≡ t
            → eqb (bit_or (bit_and lows low) (bit_and highs high)) 0 ≡ t
        go (yes e) true w = eq-eqb (bit_or (bit_and lows low) (bit_and highs high)) 0 e
        go (yes e) false w = absurd (false≢true (sym w ∙ none_in (in_words low high) route (clear_none e)))
        go (no n) true w = absurd (n (none_clear w))
        go (no n) false w = ne_eqb (bit_or (bit_and lows low) (bit_and highs high)) 0 n

  -- so the side by the words is the book's with these spans out
  pub side_booked : (m : RouteBook) {b : Book} → b ≡ book_of m → side_by b (clear b.low b.high low high) ≡ side m (up_with m (in_words low high))
  side_booked m e =
      ap (λ (y : Book). side_by y (clear y.low y.high low high)) e
      ∙ alike m (clear (book_of m).low (book_of m).high low high) (up_with m (in_words low high)) (λ k l. clear_up m k l) (lowest m)
