-- THE ANSWERS OF ask_set: for one span what `ask` answers; and where all stations are joined with a set of spans out, the answer for every part of the set
-- is the same. It rests on `withdrawn_joined`: a part of a set leaves no less up.
use Prim.Native.Nat.{ℕ, ◌+◌, ◌-◌, ◌^◌, ◌<◌, ◌≤◌}
use mathlib.Core.Path.{◌≡◌, refl, sym, ap, ◌∙◌}
use mathlib.Core.List.{List, [], ◌∷◌}
use mathlib.Core.Bool.{Bool, true, false, cond, not, false≢true}
use native.Mathlib.Decide.{dec_lt, ℕ_discrete}
use native.Mathlib.Omega.{arith}
use lib.Dec.{eqb, ltb}
use lib.ListN.{length}
use lib.Bits.{bit_and, bit_or}
use borrow.Author.Tests.{lt-ltb, le-ltb, eq-eqb, ne_eqb, eqb-true}
use Rattle.book.specs.Bits.{bit, has}
use Rattle.book.specs.Book.{RouteBook, well_formed}
use Rattle.book.specs.Choice.{lightpath_at}
use Rattle.book.specs.Format.{Reading, good, refused, reading}
use Rattle.book.specs.Writing.{chosen_of}
use Rattle.book.proofs.Bits.{bit_of_zero, bit_one, bit_other, has_true, has_false, true_has, bit_lt}
use Rattle.book.proofs.Readers.{Bytes}
use Rattle.judgement.specs.declared.Asked.{Asked}
use Rattle.std.specs.Prelude.{Result, Ok, Err}
use Rattle.book.specs.Memory.{refusal}
use Rattle.book.specs.declared.refusal.Refusal.{Refusal}
use Rattle.judgement.specs.Judgement.{network, without, side, whole, stations}
use Rattle.judgement.specs.Cuts.{AllJoined}
use Rattle.judgement.specs.Answers.{asked, asked_of, asked_set_of, asked_numbers}
use Rattle.judgement.specs.Withdrawn.{none_of, up_with, PartOf, also, in_words, beyond}
use Rattle.judgement.proofs.Alike.{side_alike}
use Rattle.judgement.proofs.Sets.{has_or, bit-and}
use Rattle.judgement.proofs.Whole.{whole_joined}
use Rattle.judgement.proofs.Opened.{fits_all}
use Rattle.judgement.proofs.Booked.{in_low, in_high, none_beyond, beyond_none}
use Rattle.judgement.proofs.Withdrawn.{also_less, one_booked, withdrawn_joined}

-- sets that hold the same numbers are one set to every lightpath
none_alike : {booked other : ℕ → Bool} → ((x : ℕ) → booked x ≡ other x) → (xs : List ℕ) → none_of booked xs ≡ none_of other xs
unfolding none_of
none_alike f [] = refl
none_alike f (x ∷ xs) = rw (f x, none_alike f xs)

-- ONE SPAN: where two words hold number x and no other, the answer is that of `ask`
module _ (low high x : ℕ) (few : x < 128) (one : (y : ℕ) → in_words low high y ≡ eqb x y) where
  side_one : (m : RouteBook) → side m (up_with m (in_words low high)) ≡ side m (without m x)
  side_one m = side_alike (network m) (network m) (up_with m (in_words low high)) (without m x) (record {
    count = refl;
    from = λ k l. refl;
    to = λ k l. refl;
    state = λ k l. none_alike one (lightpath_at m.lightpaths k).route.spans ∙ one_booked m x k;
  }) 64 _

  beyond_one : (n : ℕ) → beyond (in_words low high) n ≡ not (ltb x n)
  beyond_one n = go (beyond (in_words low high) n) refl (dec_lt x n)
    where
      go : (t : Bool) → beyond (in_words low high) n ≡ t → Dec (x < n) → t ≡ not (ltb x n)
      go true e (yes l) = sym e ∙ none_beyond (in_words low high) n (λ y a b. one y ∙ ne_eqb x y (λ q. omega (arith, a, l, q))) ∙ sym (ap not (lt-ltb x n l))
      go true e (no k) = sym (ap not (le-ltb x n (omega (arith, k))))
      go false e (yes l) = sym (ap not (lt-ltb x n l))
      go false e (no k) = absurd (false≢true (sym (beyond_none (in_words low high) n e x (omega (arith, k)) few) ∙ one x ∙ eq-eqb x x refl))

  pub ask_set_one : (g : Reading) → asked_set_of g low high ≡ asked_of g x
  ask_set_one (good m) =
      rw (beyond_one (length m.spans), side_one m)
      (turned (ltb x (length m.spans)) (Err (refusal 13 0)) (Ok (asked (side m (without m x)) (whole m (without m x)))))
    where
      turned : (t : Bool) (a b : Result Asked Refusal) → cond (not t) a b ≡ cond t b a
      turned true a b = refl
      turned false a b = refl
  ask_set_one (refused k p) = refl

one_bit : (x y : ℕ) → has (2 ^ x) y ≡ eqb x y
one_bit x y = elim (ℕ_discrete y x) [
  | yes e ↦ ap (has (2 ^ x)) e ∙ has_true (2 ^ x) x (bit_one x) ∙ sym (eq-eqb x y (sym e))
  | no n ↦ has_false (2 ^ x) y (bit_other x y n) ∙ sym (ne_eqb x y (λ e. n (sym e)))
]

no_bit : (y : ℕ) → has 0 y ≡ false
no_bit y = has_false 0 y (bit_of_zero y)

-- span x below 64 is bit x of the first word, and span 64 + x bit x of the second
pub ask_set_low : (x : ℕ) → x < 64 → (g : Reading) → asked_set_of g (2 ^ x) 0 ≡ asked_of g x
ask_set_low x l = ask_set_one (2 ^ x) 0 x (omega (arith, l)) (λ y. elim (dec_lt y 64) [
  | yes b ↦ in_low (2 ^ x) 0 y b ∙ one_bit x y
  | no b ↦ in_high (2 ^ x) 0 y (omega (arith, b)) ∙ no_bit (y - 64) ∙ sym (ne_eqb x y (λ e. omega (arith, e, l, b)))
])

pub ask_set_high : (x : ℕ) → x < 64 → (g : Reading) → asked_set_of g 0 (2 ^ x) ≡ asked_of g (64 + x)
ask_set_high x l = ask_set_one 0 (2 ^ x) (64 + x) (omega (arith, l)) (λ y. elim (dec_lt y 64) [
  | yes b ↦ in_low 0 (2 ^ x) y b ∙ no_bit y ∙ sym (ne_eqb (64 + x) y (λ e. omega (arith, e, b)))
  | no b ↦ in_high 0 (2 ^ x) y (omega (arith, b)) ∙ one_bit x (y - 64) ∙ shifted y (omega (arith, b)) (ℕ_discrete x (y - 64))
])
  where
    shifted : (y : ℕ) → 64 ≤ y → Dec (x ≡ y - 64) → eqb x (y - 64) ≡ eqb (64 + x) y
    shifted y b (yes e) = eq-eqb x (y - 64) e ∙ sym (eq-eqb (64 + x) y (omega (arith, e, b)))
    shifted y b (no n) = ne_eqb x (y - 64) n ∙ sym (ne_eqb (64 + x) y (λ e. n (omega (arith, e))))

-- sets as words: a part by the machine's and, and a further loss by its or
pub words_part : (low high low' high' : ℕ) → bit_and low' low ≡ low' → bit_and high' high ≡ high' → PartOf (in_words low' high') (in_words low high)
words_part low high low' high' p q x = go (dec_lt x 64)
  where
    kept : (a b : ℕ) → bit_and a b ≡ a → (i : ℕ) → has a i ≡ true → has b i ≡ true
    kept a b e i h = has_true b i (omega (arith, true_has a i h, bit-and a b i, ap (λ (w : ℕ). bit w i) e, bit_lt b i))

    go : Dec (x < 64) → in_words low' high' x ≡ true → in_words low high x ≡ true
    go (yes l) h = in_low low high x l ∙ kept low' low p x (sym (in_low low' high' x l) ∙ h)
    go (no k) h = in_high low high x (omega (arith, k)) ∙ kept high' high q (x - 64) (sym (in_high low' high' x (omega (arith, k))) ∙ h)

pub words_also : (low high l h x : ℕ) → in_words (bit_or low l) (bit_or high h) x ≡ also (in_words low high) (in_words l h) x
words_also low high l h x = go (dec_lt x 64)
  where
    go : Dec (x < 64) → in_words (bit_or low l) (bit_or high h) x ≡ also (in_words low high) (in_words l h) x
    go (yes b) = in_low (bit_or low l) (bit_or high h) x b ∙ has_or low l x ∙ rw (in_low low high x b, in_low l h x b)
    go (no b) =
        let c : 64 ≤ x = omega (arith, b) in
        in_high (bit_or low l) (bit_or high h) x c ∙ has_or high h (x - 64) ∙ rw (in_high low high x c, in_high l h x c)

-- what it means that all stations are told to be joined
module _ (m : RouteBook) (fits : well_formed m ≡ true) (low high : ℕ) where
  pub told_joined : {d : ℕ} → asked_set_of (good m) low high ≡ Ok (asked d true)
      → (beyond (in_words low high) (length m.spans) ≡ false) × AllJoined m (up_with m (in_words low high)) × (d ≡ stations m)
  told_joined {d} e = go (beyond (in_words low high) (length m.spans)) refl e
    where
      up : ℕ → Bool
      up = up_with m (in_words low high)

      go : (t : Bool) → beyond (in_words low high) (length m.spans) ≡ t → cond t (Err (refusal 13 0)) (Ok (asked (side m up) (whole m up))) ≡ Ok (asked d true)
          → (beyond (in_words low high) (length m.spans) ≡ false) × AllJoined m up × (d ≡ stations m)
      go true b w = absurd (false≢true (ap (λ (r : Result Asked Refusal). (asked_numbers r).all) w))
      go false b w =
          let all = ap (λ (r : Result Asked Refusal). (asked_numbers r).all) w in
          (b, (whole_joined m fits up).0 all, sym (ap (λ (r : Result Asked Refusal). (asked_numbers r).side) w) ∙ eqb-true (side m up) (stations m) all)

  pub joined_told : beyond (in_words low high) (length m.spans) ≡ false → AllJoined m (up_with m (in_words low high))
      → asked_set_of (good m) low high ≡ Ok (asked (stations m) true)
  joined_told b all =
      let up = up_with m (in_words low high) in
      let w = (whole_joined m fits up).1 all in
      rw (b, w, eqb-true (side m up) (stations m) w)

module _ (m : RouteBook) (fits : well_formed m ≡ true) (low high low' high' : ℕ) (f : PartOf (in_words low' high') (in_words low high)) where
  part_within : (n : ℕ) → beyond (in_words low high) n ≡ false → beyond (in_words low' high') n ≡ false
  part_within n e = none_beyond (in_words low' high') n (λ x a b. go x (in_words low' high' x) refl (beyond_none (in_words low high) n e x a b))
    where
      go : (x : ℕ) (t : Bool) → in_words low' high' x ≡ t → in_words low high x ≡ false → t ≡ false
      go x true h z = absurd (false≢true (sym z ∙ f x h))
      go x false h z = refl

  part_told : {d : ℕ} → asked_set_of (good m) low high ≡ Ok (asked d true) → asked_set_of (good m) low' high' ≡ Ok (asked d true)
  part_told e =
      let j = told_joined m fits low high e in
      joined_told m fits low' high' (part_within (length m.spans) j.0) (withdrawn_joined m f j.1) ∙ ap (λ (d : ℕ). Ok (asked d true)) (sym j.2)

-- THE LAWS (a) and (b) of the answers: r and r' are what `ask_set` answers of the same bytes and the same choice
module _ (s : List ℕ) (n : ℕ) (h : Bytes s) (low high low' high' : ℕ) (f : PartOf (in_words low' high') (in_words low high)) (r r' : Result Asked Refusal) where
  pub withdrawn_answer : r ≡ asked_set_of (chosen_of (reading s) n) low high → r' ≡ asked_set_of (chosen_of (reading s) n) low' high'
      → {d : ℕ} → r ≡ Ok (asked d true) → r' ≡ Ok (asked d true)
  withdrawn_answer met met' {d} e = met' ∙ go (chosen_of (reading s) n) refl (sym met ∙ e)
    where
      go : (g : Reading) → chosen_of (reading s) n ≡ g → asked_set_of g low high ≡ Ok (asked d true) → asked_set_of g low' high' ≡ Ok (asked d true)
      go (good m) q w = part_told m (fits_all s n h m q) low high low' high' f w
      go (refused k p) q w = absurd (false≢true (ap (λ (a : Result Asked Refusal). (asked_numbers a).all) w))

module _ (s : List ℕ) (n : ℕ) (h : Bytes s) (low high low' high' : ℕ) (f : PartOf (in_words low' high') (in_words low high)) (l k : ℕ) (r r' : Result Asked Refusal) where
  pub withdrawn_loss_answer : r ≡ asked_set_of (chosen_of (reading s) n) (bit_or low l) (bit_or high k)
      → r' ≡ asked_set_of (chosen_of (reading s) n) (bit_or low' l) (bit_or high' k)
      → {d : ℕ} → r ≡ Ok (asked d true) → r' ≡ Ok (asked d true)
  withdrawn_loss_answer =
      withdrawn_answer s n h (bit_or low l) (bit_or high k) (bit_or low' l) (bit_or high' k)
      (λ x e. words_also low high l k x ∙ also_less (in_words l k) f x (sym (words_also low' high' l k x) ∙ e)) r r'
