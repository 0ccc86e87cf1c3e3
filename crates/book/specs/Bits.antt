-- A set of numbers as one number: i is in the set x where bit i of x is 1. docs/BOOK.md, section 7.
use Rattle.std.specs.Prelude.{ℕ, suc, ◌/◌, ◌%◌, ◌^◌, List, [], ◌∷◌, Bool, cond, eqb}
use Rattle.std.specs.Int.Bits.{bit_or}

-- bit i of x: 0 or 1
unfoldable pub bit : ℕ → ℕ → ℕ
bit x i = x / 2 ^ i % 2

-- whether i is in the set x
unfoldable pub has : ℕ → ℕ → Bool
has x i = eqb (bit x i) 1

-- x with i put in
unfoldable pub put : ℕ → ℕ → ℕ
put x i = bit_or x (2 ^ i)

-- x with i put in where the test holds
abbrev pub put_if : Bool → ℕ → ℕ → ℕ
put_if t x i = cond t (put x i) x

-- B47: the stations of a list of nodes, the first numbered k, put into x
unfoldable pub stations_into : ℕ → ℕ → List Bool → ℕ
stations_into x k [] = x
stations_into x k (n ∷ ns) = stations_into (put_if n x k) (suc k) ns

abbrev pub station_set : List Bool → ℕ
station_set ns = stations_into 0 0 ns

-- B48: the spans of a route that are in word w of 64, put into x
unfoldable pub word_into : ℕ → ℕ → List ℕ → ℕ
word_into w x [] = x
word_into w x (s ∷ ss) = word_into w (put_if (eqb (s / 64) w) x (s % 64)) ss

abbrev pub span_word : ℕ → List ℕ → ℕ
span_word w r = word_into w 0 r
