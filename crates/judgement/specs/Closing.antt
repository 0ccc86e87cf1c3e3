-- What the functions that close a node tell each other, in the arrays of a book: nothing beyond docs/SITES.md to believe.
use Rattle.std.specs.Prelude.{ℕ, ◌*◌, ◌<◌, ◌≡◌, List, [], ◌∷◌, cond, not, eqb, length, get_or, take, drop, Option, None}
use Rattle.std.specs.Int.Bits.{bit_xor}
use Rattle.std.specs.Int.Count.{count_trailing_zeros}
use Rattle.book.specs.declared.Book.{Book}
use Rattle.book.specs.Book.{most_nodes, longest_route}
use Rattle.book.specs.Bits.{has, put}
use Rattle.judgement.specs.Network.{side_of}
use Rattle.judgement.specs.Judgement.{first_of}
use Rattle.judgement.specs.Inside.{net_of, unset}
use Rattle.judgement.specs.Sites.{down_at}
use Rattle.judgement.specs.declared.Down.{Down}

-- the ends of the spans stand in two arrays, and are numbers below 64
pub record EndsLow (left right : List ℕ) : Type 0 where
  pub left_low : (x : ℕ) → get_or left x 0 < most_nodes
  pub right_low : (x : ℕ) → get_or right x 0 < most_nodes

-- where span x leads from the node p, and a set with all nodes that a route meets from p on
abbrev pub other_end : List ℕ → List ℕ → ℕ → ℕ → ℕ
other_end left right x p = cond (eqb (get_or left x 0) p) (get_or right x 0) (get_or left x 0)

unfoldable pub met_in : List ℕ → List ℕ → ℕ → ℕ → List ℕ → ℕ
met_in left right met p [] = put met p
met_in left right met p (x ∷ xs) = met_in left right (put met p) (other_end left right x p) xs

-- the route of lightpath k stands at the start of row k; the nodes that it meets
abbrev pub route_in : Book → ℕ → List ℕ
route_in b k = take (get_or b.len k 0) (drop (longest_route * k) b.route)

abbrev pub met_of : Book → ℕ → ℕ
met_of b k = met_in b.left b.right 0 (get_or b.from k 0) (route_in b k)

-- word k has the nodes that lightpath k meets, for the first n lightpaths
pub record MetBy (b : Book) (n : ℕ) (words : List ℕ) : Type 0 where
  pub long : length words ≡ 152
  pub each : (k : ℕ) → k < n → get_or words k 0 ≡ met_of b k

-- the stations without node v
abbrev pub left_in : ℕ → ℕ → ℕ
left_in all v = cond (has all v) (bit_xor all (put 0 v)) all

-- with node v closed: the side by the words, that of a book, and the answer that names the lowest node at which it lacks a station that is left
abbrev pub side_left_in : ℕ → ℕ → List ℕ → List ℕ → List ℕ → ℕ → ℕ
side_left_in all n from to words v =
    let d = side_of (net_of n from to) (unset words v) most_nodes (count_trailing_zeros most_nodes (left_in all v)) in
    cond (eqb (left_in all v) 0) 0 d

abbrev pub side_left_by : Book → List ℕ → ℕ → ℕ
side_left_by b words v = side_left_in b.stations b.lightpaths b.from b.to words v

abbrev pub site_in : Book → List ℕ → Option Down
site_in b words = first_of (λ v. not (eqb (side_left_by b words v) (left_in b.stations v))) (λ v. down_at v (side_left_by b words v)) None b.nodes 0
