-- Text as bytes in ASCII: docs/REPORT.md, R1.
use Rattle.std.specs.Prelude.{ℕ, zero, suc, ◌+◌, ◌-◌, ◌*◌, ◌/◌, ◌%◌, min, cond, List, [], ◌∷◌, ◌++◌, ltb, length, take}
use Rattle.book.specs.Memory.{padded}
use Rattle.listing.specs.declared.text.Text.{Text}

-- the digit with value d, in lower case where it is a letter
abbrev pub glyph : ℕ → ℕ
glyph d = cond (ltb d 10) (48 + d) (87 + d)

-- the last k digits of n in base b, the first of them first
unfoldable pub spelled : ℕ → ℕ → ℕ → List ℕ
spelled b zero n = []
spelled b (suc k) n = spelled b k (n / b) ++ glyph (n % b) ∷ []

-- how many digits a number has in decimal, d + 1 at most: one below ten, and else one more than its tenth
unfoldable pub width_by : ℕ → ℕ → ℕ
width_by zero n = 1
width_by (suc d) n = let r = suc (width_by d (n / 10)) in cond (ltb n 10) 1 r

-- a number of 64 bits has at most 20
abbrev pub width : ℕ → ℕ
width n = width_by 19 n

-- R1: a number in decimal, and a side as 16 hex digits
abbrev pub decimal : ℕ → List ℕ
decimal n = spelled 10 (width n) n

abbrev pub hex : ℕ → List ℕ
hex n = spelled 16 16 n

-- what digits are worth, read in a base: by this `decimal` and `hex` are what they should be, and by this a number is read that was typed
abbrev pub digit_of : ℕ → ℕ
digit_of c = cond (ltb c 58) (c - 48) (c - 87)

unfoldable pub worth_from : ℕ → ℕ → List ℕ → ℕ
worth_from b v [] = v
worth_from b v (c ∷ cs) = worth_from b (b * v + digit_of c) cs

abbrev pub worth : ℕ → List ℕ → ℕ
worth b cs = worth_from b 0 cs

-- the struct that holds text
abbrev pub most_text : ℕ
most_text = 1024

unfoldable pub text_of : List ℕ → Text
text_of l = record { len = min (length l) most_text; bytes = padded most_text (take most_text l) }
