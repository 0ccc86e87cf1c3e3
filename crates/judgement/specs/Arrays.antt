-- The verdict on a book in memory: docs/JUDGEMENT.md, section 7. It is what the arrays of a struct say, so that a struct that no book has gets an answer too;
-- that of a book gets the book's own verdict.
use Rattle.std.specs.Prelude.{ℕ, ◌-◌, ◌*◌, min, List, Bool, cond, not, ◌&&◌, eqb, ltb, get_or, take, drop}
use Rattle.std.specs.Int.Count.{count_trailing_zeros}
use Rattle.book.specs.declared.Book.{Book}
use Rattle.book.specs.Book.{most_nodes, most_spans, most_lightpaths, longest_route, below, count}
use Rattle.judgement.specs.Network.{side_of}
use Rattle.judgement.specs.Judgement.{sum, all_up, first_of}
use Rattle.judgement.specs.Inside.{net_of, unset}
use Rattle.judgement.specs.declared.Verdict.{Verdict}
use Rattle.judgement.specs.declared.Verdict.TheVariants.{Over, Split, Cut, Okay}

-- J28: no count is above the most that a book can have, there is a station, and the ends of the lightpaths are numbers of nodes
abbrev pub lowest_in : Book → ℕ
lowest_in b = count_trailing_zeros most_nodes b.stations

abbrev pub usable : Book → Bool
usable b = not (ltb most_lightpaths b.lightpaths) && (not (ltb most_spans b.spans) && (ltb (lowest_in b) most_nodes && (below most_nodes b.from && below most_nodes b.to)))

-- J28: row k holds the route of lightpath k; the load of a span is how often it stands in the rows
abbrev pub row_in : Book → ℕ → List ℕ
row_in b k = take (min (get_or b.len k 0) longest_route) (drop (longest_route * k) b.route)

abbrev pub load_in : Book → ℕ → ℕ
load_in b x = sum (λ k. count x (row_in b k)) b.lightpaths

abbrev pub limit_in : Book → ℕ → ℕ
limit_in b x = get_or b.limit x 0

-- J28: with span x out a lightpath is up where its words lack the span; the first has the spans below 64
abbrev pub up_in : Book → ℕ → ℕ → Bool
up_in b x = cond (ltb x 64) (unset b.low x) (unset b.high (x - 64))

abbrev pub side_by : Book → (ℕ → Bool) → ℕ
side_by b up = side_of (net_of b.lightpaths b.from b.to) up most_nodes (lowest_in b)

-- J11 to J14, of the arrays
abbrev pub cut_or_okay_in : Book → Verdict
cut_or_okay_in b = first_of (λ x. not (eqb (side_by b (up_in b x)) b.stations)) (λ x. Cut x (side_by b (up_in b x))) Okay b.spans 0

abbrev pub split_or_in : Book → Verdict
split_or_in b = let r = cut_or_okay_in b in cond (eqb (side_by b all_up) b.stations) r (Split (side_by b all_up))

abbrev pub over_or_in : Book → Verdict
over_or_in b = let r = split_or_in b in first_of (λ x. ltb (limit_in b x) (load_in b x)) (λ x. Over x (load_in b x) (limit_in b x)) r b.spans 0

-- J27, J28: SPLIT with an empty side where the struct is not usable
abbrev pub verdict_in : Book → Verdict
verdict_in b = let r = over_or_in b in cond (usable b) r (Split 0)
