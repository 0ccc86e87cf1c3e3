-- A number as it is typed: docs/COMMANDS.md, C1 and C2.
use Rattle.std.specs.Prelude.{ℕ, Bool, cond, List, [], ◌∷◌, ltb, Result, Ok, Err}
use Rattle.std.specs.Char.{is_ascii_digit}
use Rattle.std.specs.List.{list_all}
use Rattle.listing.specs.Text.{worth}
use Rattle.listing.specs.declared.number.NotNumber.{NotNumber}
use Rattle.listing.specs.declared.number.NotNumber.TheVariants.{Empty, NotDigits, TooGreat}

-- C1: a digit is one of the bytes 0 to 9 in ASCII
abbrev pub all_digits : List ℕ → Bool
all_digits w = list_all is_ascii_digit w

-- C2: it fits 32 bits
abbrev pub fits32 : ℕ → Bool
fits32 n = ltb n 4294967296

-- C1, C2: the number that a word is, or why it is none, the first reason first
abbrev pub parsed : List ℕ → Result ℕ NotNumber
parsed [] = Err Empty
parsed (c ∷ cs) = cond (all_digits (c ∷ cs)) (cond (fits32 (worth 10 (c ∷ cs))) (Ok (worth 10 (c ∷ cs))) (Err TooGreat)) (Err NotDigits)
