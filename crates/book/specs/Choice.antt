-- Choices, their numbers, and the book that a choice makes: docs/BOOK.md, section 8, in that order.
use Rattle.std.specs.Prelude.{ℕ, zero, suc, ◌+◌, ◌*◌, ◌/◌, ◌%◌, List, [], ◌∷◌, map, Bool, true, false, cond, ◌&&◌, length, get_or, eqb, ltb}
use Rattle.book.specs.Book.{Route, Lightpath, Alternative, RouteBook, most_with_alternatives, count, lightpath_of}
use Rattle.book.specs.Memory.{padded}

-- B50: a lightpath is movable where it has alternatives; of the n lightpaths from k on, the movable ones in rising order
abbrev pub owners : RouteBook → List ℕ
owners m = map lightpath_of m.alternatives

unfoldable pub movable_from : List ℕ → ℕ → ℕ → List ℕ
movable_from os k zero = []
movable_from os k (suc n) = let r = movable_from os (suc k) n in cond (ltb 0 (count k os)) (k ∷ r) r

abbrev pub movable : RouteBook → List ℕ
movable m = movable_from (owners m) 0 (length m.lightpaths)

-- B51: eight digits, one for each movable lightpath; with w alternatives a digit has w + 1 values, and an unused one has one
abbrev pub alternatives_each : RouteBook → List ℕ
alternatives_each m = padded most_with_alternatives (map (λ k. count k (owners m)) (movable m))

abbrev pub sizes : RouteBook → List ℕ
sizes m = map suc (alternatives_each m)

-- B52: a row of digits is valid for a list of sizes where there are as many, each below its own size
unfoldable pub valid : List ℕ → List ℕ → Bool
valid [] [] = true
valid [] (d ∷ ds) = false
valid (z ∷ zs) [] = false
valid (z ∷ zs) (d ∷ ds) = let r = valid zs ds in ltb d z && r

-- B53: the number of choices
unfoldable pub product : List ℕ → ℕ
product [] = 1
product (z ∷ zs) = z * product zs

abbrev pub choices : RouteBook → ℕ
choices m = product (sizes m)

-- B54: the number of a choice; w is the product of the sizes before
unfoldable pub weighed : ℕ → List ℕ → List ℕ → ℕ
weighed w [] ds = 0
weighed w (z ∷ zs) [] = 0
weighed w (z ∷ zs) (d ∷ ds) = d * w + weighed (w * z) zs ds

abbrev pub number : List ℕ → List ℕ → ℕ
number zs ds = weighed 1 zs ds

-- B55: the digits of a number
unfoldable pub digits : List ℕ → ℕ → List ℕ
digits [] n = []
digits (z ∷ zs) n = (n % z) ∷ digits zs (n / z)

-- B56: the next row of digits: the first digit that can goes up by one, and those before it go back to 0
unfoldable pub stepped : List ℕ → List ℕ → List ℕ
stepped [] ds = []
stepped (z ∷ zs) [] = []
stepped (z ∷ zs) (d ∷ ds) = let r = stepped zs ds in cond (ltb (d + 1) z) ((d + 1) ∷ ds) (0 ∷ r)

-- B57: the routes of lightpath k: by digit 0 its own, by digit j its j-th alternative
abbrev pub no_route : Route
no_route = record { spans = [] }

abbrev pub lightpath_at : List Lightpath → ℕ → Lightpath
lightpath_at ps k = get_or ps k (record { ends = record { from = 0; to = 0 }; route = no_route })

unfoldable pub alternatives_of : ℕ → List Alternative → List Route
alternatives_of k [] = []
alternatives_of k (a ∷ l) = let r = alternatives_of k l in cond (eqb a.lightpath k) (a.route ∷ r) r

abbrev pub routes_for : RouteBook → ℕ → List Route
routes_for m k = (lightpath_at m.lightpaths k).route ∷ alternatives_of k m.alternatives

-- B58: the digit of lightpath k is the one that stands for it, and 0 where it is not movable
unfoldable pub digit_for : List ℕ → List ℕ → ℕ → ℕ
digit_for [] ds k = 0
digit_for (v ∷ vs) [] k = 0
digit_for (v ∷ vs) (d ∷ ds) k = let r = digit_for vs ds k in cond (eqb v k) d r

abbrev pub route_by : RouteBook → List ℕ → ℕ → Route
route_by m ds k = get_or (routes_for m k) (digit_for (movable m) ds k) no_route

-- B59: the chosen book: each lightpath, from number k on, has the route that it is given, and all else is kept
unfoldable pub rerouted : (ℕ → Route) → ℕ → List Lightpath → List Lightpath
rerouted r k [] = []
rerouted r k (p ∷ ps) = record { ends = p.ends; route = r k } ∷ rerouted r (suc k) ps

abbrev pub chosen_by : RouteBook → List ℕ → RouteBook
chosen_by m ds = record {
  nodes = m.nodes;
  spans = m.spans;
  lightpaths = rerouted (route_by m ds) 0 m.lightpaths;
  alternatives = m.alternatives;
}

abbrev pub chosen : RouteBook → ℕ → RouteBook
chosen m n = chosen_by m (digits (sizes m) n)
