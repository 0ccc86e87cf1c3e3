-- What a route book says, and when it is well formed: docs/BOOK.md, sections 1 to 3, in that order.
use Rattle.std.specs.Prelude.{ℕ, ◌+◌, List, [], ◌∷◌, map, Bool, true, false, cond, not, ◌&&◌, ◌||◌, length, get_or, eqb, ltb, leb}

-- B3: a span joins two nodes, its ends, and has a wavelength limit
pub record Span : Type 0 where
  pub left : ℕ
  pub right : ℕ
  pub limit : ℕ

-- B5: a route is a list of span numbers, in the order of the walk
pub record Route : Type 0 where
  pub spans : List ℕ

-- B4: a lightpath runs from one station to another over a route
pub record Ends : Type 0 where
  pub from : ℕ
  pub to : ℕ

pub record Lightpath : Type 0 where
  pub ends : Ends
  pub route : Route

-- B6: an alternative is another route of one lightpath
pub record Alternative : Type 0 where
  pub lightpath : ℕ
  pub route : Route

-- B1, B2: a book; a node is `true` where it is a station
pub record RouteBook : Type 0 where
  pub nodes : List Bool
  pub spans : List Span
  pub lightpaths : List Lightpath
  pub alternatives : List Alternative

-- B8: the bounds
abbrev pub most_nodes : ℕ
most_nodes = 64

abbrev pub most_spans : ℕ
most_spans = 128

abbrev pub most_lightpaths : ℕ
most_lightpaths = 96

abbrev pub most_alternatives : ℕ
most_alternatives = 56

abbrev pub most_for_one : ℕ
most_for_one = 7

abbrev pub most_with_alternatives : ℕ
most_with_alternatives = 8

abbrev pub longest_route : ℕ
longest_route = 16

-- whether a number is in a list; whether all of a list are below n
abbrev pub among : ℕ → List ℕ → Bool
among x [] = false
among x (y ∷ ys) = eqb x y || among x ys

unfoldable pub below : ℕ → List ℕ → Bool
below n [] = true
below n (x ∷ xs) = let r = below n xs in ltb x n && r

-- how often k is in a list; how many different numbers a list holds
unfoldable pub count : ℕ → List ℕ → ℕ
count k [] = 0
count k (x ∷ xs) = cond (eqb x k) 1 0 + count k xs

unfoldable pub different : List ℕ → ℕ
different [] = 0
different (x ∷ xs) = cond (among x xs) 0 1 + different xs

-- each of a list fits, given those before it, the last first
unfoldable pub every : {A : Type 0} → (List A → A → Bool) → List A → List A → Bool
every fits before [] = true
every fits before (a ∷ l) = let r = every fits (a ∷ before) l in fits before a && r

-- B9: the counts are within their bounds
abbrev pub counts_fit : ℕ → ℕ → ℕ → ℕ → Bool
counts_fit n s p a = leb 1 n && leb n most_nodes && leb s most_spans && leb p most_lightpaths && leb a most_alternatives

-- B10: some node is a station
unfoldable pub some : List Bool → Bool
some [] = false
some (n ∷ ns) = n || some ns

-- B11: the ends of a span are nodes, and differ; its limit is one byte
unfoldable pub span_ends : ℕ → ℕ → ℕ → Bool
span_ends n a b = ltb a n && ltb b n && not (eqb a b)

abbrev pub span_fits : ℕ → Span → Bool
span_fits n x = span_ends n x.left x.right && ltb x.limit 256

-- B12: the ends of a lightpath are stations, and differ
unfoldable pub lightpath_ends : List Bool → Ends → Bool
lightpath_ends ns e = get_or ns e.from false && get_or ns e.to false && not (eqb e.from e.to)

-- B13: the length of a route
unfoldable pub length_fits : ℕ → Bool
length_fits l = leb 1 l && leb l longest_route

-- B14: the walk. From the present node p, with the nodes met so far, over the spans in order, to the node t: each span has p at one
-- end and leads to the other, which is not met yet
abbrev pub span_at : List Span → ℕ → Span
span_at sps x = get_or sps x (record { left = 0; right = 0; limit = 0 })

abbrev pub touches : Span → ℕ → Bool
touches s p = eqb s.left p || eqb s.right p

abbrev pub far : Span → ℕ → ℕ
far s p = cond (eqb s.left p) s.right s.left

unfoldable pub walks : List Span → List ℕ → ℕ → List ℕ → ℕ → Bool
walks sps met p [] t = eqb p t
walks sps met p (x ∷ xs) t =
    let q = far (span_at sps x) p in
    let r = walks sps (q ∷ met) q xs t in touches (span_at sps x) p && not (among q met) && r

-- B67: the nodes that spans in order meet from the present node p on, by the same steps: p, and where each span leads
unfoldable pub met_on : List Span → ℕ → List ℕ → List ℕ
met_on sps p [] = p ∷ []
met_on sps p (x ∷ xs) = p ∷ met_on sps (far (span_at sps x) p) xs

-- B15: the route rule: length, span numbers, and the walk from "from", which is met at the start, to "to"
abbrev pub route_walks : List Span → Ends → List ℕ → Bool
route_walks sps e r = walks sps (e.from ∷ []) e.from r e.to

abbrev pub route_fits : List Span → Ends → Route → Bool
route_fits sps e r = length_fits (length r.spans) && (below (length sps) r.spans && route_walks sps e r.spans)

abbrev pub lightpath_fits : List Bool → List Span → Lightpath → Bool
lightpath_fits ns sps p = lightpath_ends ns p.ends && route_fits sps p.ends p.route

-- B16: alternatives stand by lightpath, in numbers that never fall; at most 7 for one, on at most 8. `before` has the lightpaths of
-- the alternatives before it, the last first
unfoldable pub follows : ℕ → List ℕ → ℕ → Bool
follows lightpaths before k =
    ltb k lightpaths && leb (get_or before 0 0) k && (ltb 0 (count k before) || ltb (different before) most_with_alternatives) && ltb (count k before) most_for_one

abbrev pub lightpath_of : Alternative → ℕ
lightpath_of a = a.lightpath

abbrev pub ends_of : Lightpath → Ends
ends_of p = p.ends

abbrev pub ends_at : List Ends → ℕ → Ends
ends_at es k = get_or es k (record { from = 0; to = 0 })

-- B17: an alternative runs between the ends of its lightpath
abbrev pub alternative_fits : List Span → List Ends → List Alternative → Alternative → Bool
alternative_fits sps es before a = follows (length es) (map lightpath_of before) a.lightpath && route_fits sps (ends_at es a.lightpath) a.route

-- B18: a book is well formed where all of this holds
unfoldable pub well_formed : RouteBook → Bool
well_formed m =
    counts_fit (length m.nodes) (length m.spans) (length m.lightpaths) (length m.alternatives)
    && (some m.nodes
    && (every (λ before. span_fits (length m.nodes)) [] m.spans
    && (every (λ before. lightpath_fits m.nodes m.spans) [] m.lightpaths
    && every (alternative_fits m.spans (map ends_of m.lightpaths)) [] m.alternatives)))
