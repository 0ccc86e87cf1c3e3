-- A byte more of text: while there is room it is one store, and where there is none it is dropped, as the definition has it.
-- So whoever adds bytes one by one has the text of all of them, however many they are.
use Prim.Native.Nat.{ℕ, ◌+◌, ◌≤◌, ◌<◌, min}
use mathlib.Core.Path.{◌≡◌, refl, sym, ap, ap₂, ◌∙◌, subst}
use mathlib.Core.List.{List, [], ◌∷◌, ◌++◌, append-nil, append_assoc}
use native.Mathlib.Omega.{arith}
use lib.ListN.{length, take, set, replicate, length-append}
use lib.Seq.{take_all, take-append-le, take-append_seam}
use Rattle.book.specs.Memory.{padded}
use Rattle.book.proofs.Padded.{padded_none, padded_set}
use Rattle.listing.specs.Text.{text_of}
use Rattle.listing.specs.Inside.{Adds}
use Rattle.listing.specs.declared.text.Text.{Text}

-- text by its fields
abbrev text : ℕ → List ℕ → Text
text n bs = record { len = n; bytes = bs }

pub text_none : text 0 (replicate 1024 0) ≡ text_of []
unfolding text_of
text_none = ap (text 0) (sym (padded_none 1024))

module _ (l : List ℕ) (c : ℕ) where
  text_more : length l < 1024 → text (min (length l) 1024 + 1) (set (padded 1024 (take 1024 l)) (min (length l) 1024) c) ≡ text_of (l ++ c ∷ [])
  unfolding text_of
  text_more h =
      let n : min (length l) 1024 ≡ length l = omega arith in
      let m : min (length l) 1024 + 1 ≡ min (length (l ++ c ∷ [])) 1024 = omega (arith, length-append l (c ∷ [])) in
      let whole : take 1024 l ≡ l = take_all 1024 l (omega arith) in
      let longer : take 1024 (l ++ c ∷ []) ≡ l ++ c ∷ [] = take_all 1024 (l ++ c ∷ []) (omega (arith, length-append l (c ∷ []))) in
      ap₂ text m
      (ap₂ (λ (x : List ℕ) (i : ℕ). set (padded 1024 x) i c) whole n ∙ padded_set 1024 (length l) l c refl h ∙ sym (ap (padded 1024) longer))

  text_full : 1024 ≤ length l → text_of l ≡ text_of (l ++ c ∷ [])
  unfolding text_of
  text_full h =
      let m : min (length l) 1024 ≡ min (length (l ++ c ∷ [])) 1024 = omega (arith, length-append l (c ∷ [])) in
      ap₂ text m (ap (padded 1024) (sym (take-append-le 1024 l (c ∷ []) h)))

-- so a byte more is added, or dropped
len_is : {t : Text} (l : List ℕ) → t ≡ text_of l → t.len ≡ min (length l) 1024
unfolding text_of
len_is l e = ap (λ (x : Text). x.len) e

module _ (t : Text) (c : ℕ) where
  pub adds_byte : t.len < 1024 → Adds t (c ∷ []) (text (t.len + 1) (set t.bytes t.len c))
  unfolding text_of
  adds_byte h = record {
    shows = λ l e. ap (λ (x : Text). text (x.len + 1) (set x.bytes x.len c)) e ∙ text_more l c (omega (arith, len_is l e));
  }

  pub adds_full : 1024 ≤ t.len → Adds t (c ∷ []) t
  adds_full h = record { shows = λ l e. e ∙ text_full l c (omega (arith, len_is l e)) }

-- nothing more; and one after another
pub adds_none : {t : Text} → Adds t [] t
adds_none = record { shows = λ l e. e ∙ ap text_of (sym (append-nil l)) }

pub adds_then : {t r q : Text} {x y : List ℕ} → Adds t x r → Adds r y q → Adds t (x ++ y) q
adds_then {x = x} {y = y} a b = record { shows = λ l e. b.shows (l ++ x) (a.shows l e) ∙ ap text_of (append_assoc l x y) }

-- the same bytes in other words
pub adds_as : {t r : Text} {x y : List ℕ} → x ≡ y → Adds t x r → Adds t y r
adds_as {t} {r} e a = subst (λ (z : List ℕ). Adds t z r) e a

-- two lines that were added at once
pub adds_two : {t r q : Text} (x y : List ℕ) {z : List ℕ} → Adds t (x ++ y) r → Adds r z q → Adds t (x ++ (y ++ z)) q
adds_two x y {z} a b = adds_as (append_assoc x y z) (adds_then a b)

-- text that fits is kept whole: the first bytes of the struct, as many as it says, are all of it
pub text_whole : (l : List ℕ) → length l ≤ 1024 → {t : Text} → t ≡ text_of l → take t.len t.bytes ≡ l
unfolding text_of padded
text_whole l h e =
    let n : min (length l) 1024 ≡ length l = omega arith in
    let whole : take 1024 l ≡ l = take_all 1024 l h in
    ap (λ (t : Text). take t.len t.bytes) e ∙ ap₂ (λ (i : ℕ) (x : List ℕ). take i (padded 1024 x)) n whole ∙ take-append_seam l _
