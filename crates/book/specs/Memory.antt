-- How a book is held in memory, and the reader's answer: docs/BOOK.md, section 7. Every array is its list and then noughts.
use Rattle.std.specs.Prelude.{ℕ, ◌+◌, ◌-◌, ◌*◌, List, [], ◌∷◌, ◌++◌, map, length, get_or, replicate, Result, Ok, Err}
use Rattle.std.proofs.Math.Seq.{paste}
use Rattle.book.specs.Book.{Span, Lightpath, Alternative, RouteBook, most_spans, most_lightpaths, most_alternatives, longest_route, lightpath_of}
use Rattle.book.specs.Format.{Reading, good, refused}
use Rattle.book.specs.Bits.{station_set, span_word}
use Rattle.book.specs.declared.Book.{Book}
use Rattle.book.specs.declared.refusal.Fault.{Fault}
use Rattle.book.specs.declared.refusal.Fault.TheVariants.{CutShort, WrongMark, BadCounts, BadField, SpanTooHigh, BadLength, BrokenWalk, OutOfOrder, AfterEnd, NoStation, NoRoom, NoChoice, NoSpan}
use Rattle.book.specs.declared.refusal.Refusal.{Refusal}

-- a list in n places; lists one after another, each in w places
unfoldable pub padded : ℕ → List ℕ → List ℕ
padded n xs = xs ++ replicate (n - length xs) 0

unfoldable pub rows : ℕ → List (List ℕ) → List ℕ
rows w [] = []
rows w (r ∷ rs) = padded w r ++ rows w rs

-- the bytes x, laid over d from the place `at` on
abbrev pub laid : List ℕ → ℕ → List ℕ → List ℕ
laid d at x = paste d at x (length x)

-- as many rows as a book can have routes
abbrev pub most_routes : ℕ
most_routes = most_lightpaths + most_alternatives

-- all routes in book order, as lists of span numbers: the lightpaths', then the alternatives'
abbrev pub routes_of : List Lightpath → List Alternative → List (List ℕ)
routes_of lps als = map (λ (p : Lightpath). p.route.spans) lps ++ map (λ (a : Alternative). a.route.spans) als

-- B46: the struct that holds a book
abbrev pub book_of : RouteBook → Book
book_of m = record {
  nodes = length m.nodes;
  spans = length m.spans;
  lightpaths = length m.lightpaths;
  alternatives = length m.alternatives;
  stations = station_set m.nodes;
  left = padded most_spans (map (λ (x : Span). x.left) m.spans);
  right = padded most_spans (map (λ (x : Span). x.right) m.spans);
  limit = padded most_spans (map (λ (x : Span). x.limit) m.spans);
  from = padded most_lightpaths (map (λ (p : Lightpath). p.ends.from) m.lightpaths);
  to = padded most_lightpaths (map (λ (p : Lightpath). p.ends.to) m.lightpaths);
  owner = padded most_alternatives (map lightpath_of m.alternatives);
  len = padded most_routes (map (λ (r : List ℕ). length r) (routes_of m.lightpaths m.alternatives));
  route = padded (longest_route * most_routes) (rows longest_route (routes_of m.lightpaths m.alternatives));
  low = padded most_routes (map (span_word 0) (routes_of m.lightpaths m.alternatives));
  high = padded most_routes (map (span_word 1) (routes_of m.lightpaths m.alternatives));
}

abbrev pub empty_book : RouteBook
empty_book = record { nodes = []; spans = []; lightpaths = []; alternatives = [] }

-- a book by its fields, in the struct's order, and a book with other rows
abbrev pub remade : ℕ → ℕ → ℕ → ℕ → ℕ → List ℕ → List ℕ → List ℕ → List ℕ → List ℕ → List ℕ → List ℕ → List ℕ → List ℕ → List ℕ → Book
remade n x p a st l r w f t o e q y z = record {
  nodes = n;
  spans = x;
  lightpaths = p;
  alternatives = a;
  stations = st;
  left = l;
  right = r;
  limit = w;
  from = f;
  to = t;
  owner = o;
  len = e;
  route = q;
  low = y;
  high = z;
}

abbrev pub with_rows : Book → List ℕ → List ℕ → List ℕ → List ℕ → Book
with_rows b len route low high =
    remade b.nodes b.spans b.lightpaths b.alternatives b.stations b.left b.right b.limit b.from b.to b.owner len route low high

-- B49: the number of each fault; and the fault with a number from 1 to 13, where any other is read as 13
abbrev pub fault_number : Fault → ℕ
fault_number CutShort = 1
fault_number WrongMark = 2
fault_number BadCounts = 3
fault_number BadField = 4
fault_number SpanTooHigh = 5
fault_number BadLength = 6
fault_number BrokenWalk = 7
fault_number OutOfOrder = 8
fault_number AfterEnd = 9
fault_number NoStation = 10
fault_number NoRoom = 11
fault_number NoChoice = 12
fault_number NoSpan = 13

abbrev pub faults : List Fault
faults =
    NoSpan ∷ CutShort ∷ WrongMark ∷ BadCounts ∷ BadField ∷ SpanTooHigh ∷ BadLength ∷ BrokenWalk ∷ OutOfOrder ∷ AfterEnd ∷ NoStation ∷ NoRoom ∷ NoChoice ∷ []

abbrev pub fault_of : ℕ → Fault
fault_of n = get_or faults n NoSpan

-- B49: a refusal by its number and place
abbrev pub refusal : ℕ → ℕ → Refusal
refusal n p = record { fault = fault_of n; place = p }

-- B49: the number and place of an answer: 0 and 0 where it is no refusal
abbrev pub number_of : {A : Type 0} → Result A Refusal → ℕ
number_of (Ok a) = 0
number_of (Err r) = fault_number r.fault

abbrev pub place_of : {A : Type 0} → Result A Refusal → ℕ
place_of (Ok a) = 0
place_of (Err r) = r.place

-- B49: what the reader answers
abbrev pub shown : Reading → Result Book Refusal
shown (good m) = Ok (book_of m)
shown (refused n p) = Err (refusal n p)
