-- Sets of spans that are open, and what is taken off them: docs/WITHDRAWN.md. A set of spans is a test on their numbers.
use Rattle.std.specs.Prelude.{ℕ, ◌-◌, ◌<◌, ◌≤◌, ◌≡◌, List, [], ◌∷◌, ◌++◌, Bool, true, false, cond, not, ◌&&◌, ◌||◌, ltb}
use Rattle.book.specs.Bits.{has}
use Rattle.book.specs.Book.{Lightpath, RouteBook, most_spans}
use Rattle.book.specs.Choice.{lightpath_at}
use Rattle.judgement.specs.Network.{Network}
use Rattle.judgement.specs.Judgement.{first_of}

-- W1: with a set of spans open a lightpath is up where its route holds none of them
unfoldable pub none_of : (ℕ → Bool) → List ℕ → Bool
none_of booked [] = true
none_of booked (x ∷ xs) = not (booked x) && none_of booked xs

abbrev pub up_with : RouteBook → (ℕ → Bool) → ℕ → Bool
up_with m booked k = none_of booked (lightpath_at m.lightpaths k).route.spans

-- W2: one set is part of another; and a set with a further loss, which is a set too
abbrev pub PartOf : (ℕ → Bool) → (ℕ → Bool) → Type 0
PartOf part booked = (x : ℕ) → part x ≡ true → booked x ≡ true

abbrev pub also : (ℕ → Bool) → (ℕ → Bool) → ℕ → Bool
also booked loss x = booked x || loss x

-- W3: a book with one lightpath more, after the others
abbrev pub with_one : RouteBook → Lightpath → RouteBook
with_one m p = record { nodes = m.nodes; spans = m.spans; lightpaths = m.lightpaths ++ (p ∷ []); alternatives = m.alternatives }

-- W4: whatever is up in the first state is up in the second, with the same ends: each lightpath of the one is there in the other, and up where it was
pub record NoLess (net : Network) (up : ℕ → Bool) (net' : Network) (up' : ℕ → Bool) : Type 0 where
  pub count : net.count ≤ net'.count
  pub from : (k : ℕ) → k < net.count → net.from k ≡ net'.from k
  pub to : (k : ℕ) → k < net.count → net.to k ≡ net'.to k
  pub stays : (k : ℕ) → k < net.count → up k ≡ true → up' k ≡ true

-- J29: a set of spans as two words: bit i of the first is span i, and bit i of the second span 64 + i
abbrev pub in_words : ℕ → ℕ → ℕ → Bool
in_words low high x = cond (ltb x 64) (has low x) (has high (x - 64))

-- J30: whether a set holds a number that is not below n
abbrev pub beyond : (ℕ → Bool) → ℕ → Bool
beyond booked n = first_of booked (λ x. true) false (most_spans - n) n
