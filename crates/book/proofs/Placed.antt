-- THE CHOSEN BOOK IN MEMORY: replacing the rows of the movable lightpaths one by one gives the struct that holds the chosen book.
-- A lightpath's row is replaced once, by the row of the route that its digit gives it; the rows of all others stay.
use Prim.Native.Nat.{ℕ, zero, suc, ◌+◌, ◌-◌, ◌*◌, ◌≤◌, ◌<◌, min}
use mathlib.Core.Path.{◌≡◌, refl, sym, ap, ap₂, ◌∙◌, subst}
use mathlib.Core.List.{List, [], ◌∷◌, ◌++◌, map, append_assoc}
use mathlib.Core.Logic.{◌⊎◌, inl, inr, ⊎_elim}
use mathlib.Core.Bool.{Bool, true, false, cond}
use native.Mathlib.Decide.{ℕ_discrete, dec_lt}
use native.Mathlib.Nat.{mul-zero, mul-suc}
use native.Mathlib.Omega.{arith}
use lib.ListN.{length, get_or, take, drop, set, replicate, length-map, length-append, length-set, get_or-append, get_or-map}
use lib.Seq.{map-set, set-append_left, get_or-set_same, get_or-set_other, get_or-append-add, ext_get_or, drop_at, take_at}
use lib.Dec.{eqb, ltb}
use borrow.Author.Tests.{eq-eqb, ne_eqb, lt-ltb}
use Rattle.book.specs.Book.{Span, Route, Ends, Lightpath, RouteBook, count, lightpath_of, well_formed}
use Rattle.book.specs.Choice.{owners, movable_from, movable, alternatives_each, sizes, valid, no_route, routes_for, digit_for, route_by, rerouted, chosen_by}
use Rattle.book.specs.Bits.{station_set, span_word, word_into}
use Rattle.book.specs.Memory.{padded, rows, routes_of, book_of, laid, remade}
use Rattle.book.specs.Moving.{Rows, movables_of, row_of, moved_row, moved, with_rows_of, chosen_in}
use Rattle.book.proofs.Padded.{padded_long}
use Rattle.book.proofs.Listed.{route_of_alternative, lower, lower_none, lower_next, lower_most, listed_at}
use Rattle.book.proofs.Rows.{rows_full, row_places}
use Rattle.book.proofs.Bounds.{counts}
use Rattle.book.proofs.Lightpaths.{column_at, route_of, alt_route}
use Rattle.book.proofs.Writers.{no_lightpath, route_here}
use Rattle.book.proofs.Longest.{routes_short}
use Rattle.book.proofs.Gathered.{movable_each, eight_most}
use Rattle.book.proofs.Chosen.{many_of, digit_below, length_rerouted, rerouted_at}
use Rattle.book.proofs.Laid.{laid_first, laid_after}

-- the routes rs as a book holds them
abbrev rows_of : List (List ℕ) → Rows
rows_of rs = record {
  len = padded 152 (map (λ (r : List ℕ). length r) rs);
  route = padded 2432 (rows 16 rs);
  low = padded 152 (map (span_word 0) rs);
  high = padded 152 (map (span_word 1) rs);
}

abbrev Short : List (List ℕ) → Type 0
Short rs = (i : ℕ) → length (get_or rs i []) ≤ 16

-- one row replaced, in an array of one number a row, and in the rows
column_set : {A : Type 0} (n : ℕ) (f : A → ℕ) (xs : List A) (k : ℕ) (x : A) → k < length xs → set (padded n (map f xs)) k (f x) ≡ padded n (map f (set xs k x))
unfolding padded
column_set n f xs k x l =
    let e : n - length (map f xs) ≡ n - length (map f (set xs k x)) = omega (arith, length-map xs f, length-map (set xs k x) f, length-set xs k x) in
    set-append_left (map f xs) (replicate (n - length (map f xs)) 0) k (f x) (omega (arith, length-map xs f)) ∙ ap₂ (λ (l : List ℕ) (i : ℕ). l ++ replicate i 0) (sym (map-set f xs k x)) e

rows_set : (w k : ℕ) (rs : List (List ℕ)) (t r : List ℕ) → ((i : ℕ) → length (get_or rs i []) ≤ w) → length r ≤ w → k < length rs → laid (rows w rs ++ t) (w * k) (padded w r) ≡ rows w (set rs k r) ++ t
unfolding rows
rows_set w k [] t r short s l = absurd (omega arith)
rows_set w zero (q ∷ rs) t r short s l =
    let z : w * 0 ≡ 0 = omega (arith, mul-zero w) in
    rw (z, append_assoc (padded w q) (rows w rs) t, append_assoc (padded w r) (rows w rs) t)
    (laid_first (padded w q ++ (rows w rs ++ t)) (padded w r) ∙ ap (λ (l : List ℕ). padded w r ++ l) (drop_at (padded w q) (rows w rs ++ t) (length (padded w r)) (padded_long w q (short 0) ∙ sym (padded_long w r s))))
rows_set w (suc k) (q ∷ rs) t r short s l =
    let e : w * suc k ≡ length (padded w q) + w * k = omega (arith, mul-suc w k, padded_long w q (short 0)) in
    rw (e, append_assoc (padded w q) (rows w rs) t, append_assoc (padded w q) (rows w (set rs k r)) t)
    (laid_after (padded w q) (rows w rs ++ t) (w * k) (padded w r) ∙ ap (λ (l : List ℕ). padded w q ++ l) (rows_set w k rs t r (λ i. short (suc i)) s (omega arith)))

short_set : (rs : List (List ℕ)) (k : ℕ) (r : List ℕ) → Short rs → length r ≤ 16 → k < length rs → Short (set rs k r)
short_set rs k r short s l i = go (ℕ_discrete i k)
  where
    go : Dec (i ≡ k) → length (get_or (set rs k r) i []) ≤ 16
    go (yes e) = rw (e, get_or-set_same rs k r [] l) s
    go (no n) = rw (get_or-set_other rs k i r [] n) (short i)

row_set : (rs : List (List ℕ)) (k : ℕ) (r : List ℕ) → Short rs → length r ≤ 16 → k < length rs → laid (padded 2432 (rows 16 rs)) (16 * k) (padded 16 r) ≡ padded 2432 (rows 16 (set rs k r))
unfolding padded
row_set rs k r short s l =
    let e : length (rows 16 rs) ≡ length (rows 16 (set rs k r)) = omega (arith, rows_full 16 rs short, rows_full 16 (set rs k r) (short_set rs k r short s l), length-set rs k r) in
    rows_set 16 k rs (replicate (2432 - length (rows 16 rs)) 0) r short s l ∙ ap (λ (i : ℕ). rows 16 (set rs k r) ++ replicate (2432 - i) 0) e

-- row `to` of rs replaced by row `from` of the routes listed
moved-row : (listed rs : List (List ℕ)) (to from : ℕ) → Short listed → Short rs → to < length rs → from ≤ 151 → moved_row (rows_of listed) (rows_of rs) to from ≡ rows_of (set rs to (get_or listed from []))
unfolding word_into
moved-row listed rs to from q s l few =
    let r = get_or listed from [] in
    let column : (f : List ℕ → ℕ) → f [] ≡ 0 → set (padded 152 (map f rs)) to (get_or (padded 152 (map f listed)) from 0) ≡ padded 152 (map f (set rs to r)) =
    λ f z. ap (set (padded 152 (map f rs)) to) (column_at 152 f listed [] z from) ∙ column_set 152 f rs to r l
    in
    λ i. record {
      len = column (λ (x : List ℕ). length x) refl i;
      route = (ap (laid (padded 2432 (rows 16 rs)) (16 * to)) (row_places 2432 16 from listed q (omega arith)) ∙ row_set rs to r s (q from) l) i;
      low = column (span_word 0) refl i;
      high = column (span_word 1) refl i;
    }

-- the same over the list of routes
unfoldable moved_in : List (List ℕ) → ℕ → List ℕ → List ℕ → List ℕ → List (List ℕ) → List (List ℕ)
moved_in listed first [] ws ds rs = rs
moved_in listed first (k ∷ ks) ws ds rs = moved_in listed (first + get_or ws 0 0) ks (drop 1 ws) (drop 1 ds) (set rs k (get_or listed (row_of k first (get_or ds 0 0)) []))

length_moved : (listed : List (List ℕ)) (first : ℕ) (ks ws ds : List ℕ) (rs : List (List ℕ)) → length (moved_in listed first ks ws ds rs) ≡ length rs
unfolding moved_in
length_moved listed first [] ws ds rs = refl
length_moved listed first (k ∷ ks) ws ds rs =
    length_moved listed (first + get_or ws 0 0) ks (drop 1 ws) (drop 1 ds) (set rs k (get_or listed (row_of k first (get_or ds 0 0)) [])) ∙ length-set rs k (get_or listed (row_of k first (get_or ds 0 0)) [])

moved_rows : (listed : List (List ℕ)) (first p : ℕ) (ks ws ds : List ℕ) (rs : List (List ℕ)) → Short listed → Short rs → p ≤ 96 → p ≤ length rs → ((i : ℕ) → i < length ks → get_or ks i 0 < p)
    → moved (rows_of listed) first ks ws ds (rows_of rs) ≡ rows_of (moved_in listed first ks ws ds rs)
unfolding moved moved_in
moved_rows listed first p [] ws ds rs q s few within low = refl
moved_rows listed first p (k ∷ ks) ws ds rs q s few within low =
    let r = get_or listed (row_of k first (get_or ds 0 0)) [] in
    let is : min k 95 ≡ k = omega (arith, low 0 (omega arith)) in
    let l : k < length rs = omega (arith, low 0 (omega arith)) in
    ap (moved (rows_of listed) (first + get_or ws 0 0) ks (drop 1 ws) (drop 1 ds))
    (ap (λ (x : ℕ). moved_row (rows_of listed) (rows_of rs) x (row_of x first (get_or ds 0 0))) is ∙ moved-row listed rs k (row_of k first (get_or ds 0 0)) q s l (omega arith))
    ∙ moved_rows listed (first + get_or ws 0 0) p ks (drop 1 ws) (drop 1 ds) (set rs k r) q (short_set rs k r s (q (row_of k first (get_or ds 0 0))) l) few (omega (arith, length-set rs k r))
    (λ i h. low (suc i) (omega arith))

-- a digit by its place in the row, and the digit of a lightpath that is not there
digit_none : (vs : List ℕ) (k : ℕ) → digit_for vs [] k ≡ 0
unfolding digit_for
digit_none [] k = refl
digit_none (v ∷ vs) k = refl

digit_cons : (v : ℕ) (vs ds : List ℕ) (k : ℕ) → digit_for (v ∷ vs) ds k ≡ cond (eqb v k) (get_or ds 0 0) (digit_for vs (drop 1 ds) k)
unfolding digit_for
digit_cons v vs [] k = go (eqb v k)
  where
    go : (t : Bool) → 0 ≡ cond t 0 (digit_for vs [] k)
    go true = refl
    go false = sym (digit_none vs k)
digit_cons v vs (d ∷ ds) k = refl

digit_under : (os : List ℕ) (a n : ℕ) (ds : List ℕ) (k : ℕ) → k < a → digit_for (movable_from os a n) ds k ≡ 0
unfolding movable_from digit_for
digit_under os a zero ds k l = refl
digit_under os a (suc n) ds k l = go (ltb 0 (count a os)) (λ es. digit_under os (suc a) n es k (omega arith))
  where
    go : (t : Bool) → ((es : List ℕ) → digit_for (movable_from os (suc a) n) es k ≡ 0) → digit_for (cond t (a ∷ movable_from os (suc a) n) (movable_from os (suc a) n)) ds k ≡ 0
    go true ih = digit_cons a (movable_from os (suc a) n) ds k ∙ rw (ne_eqb a k (λ e. omega arith)) (ih (drop 1 ds))
    go false ih = ih ds

-- what stands at j after moving the movable lightpaths among the n from a on. The rows of the alternatives of lightpath j begin at p + lower j os
module _ (listed : List (List ℕ)) (os : List ℕ) (p : ℕ) where
  abbrev after : ℕ → ℕ → List ℕ → List ℕ → List (List ℕ) → List (List ℕ)
  after a n t ds rs = moved_in listed (p + lower a os) (movable_from os a n) (map (λ k. count k os) (movable_from os a n) ++ t) ds rs

  -- one step: a is movable, or it is not
  after_movable : (a n : ℕ) (t ds : List ℕ) (rs : List (List ℕ)) → 0 < count a os
      → after a (suc n) t ds rs ≡ after (suc a) n t (drop 1 ds) (set rs a (get_or listed (row_of a (p + lower a os) (get_or ds 0 0)) []))
  unfolding movable_from moved_in
  after_movable a n t ds rs l =
      let ks = movable_from os (suc a) n in
      let is : movable_from os a (suc n) ≡ a ∷ ks = rw (lt-ltb 0 (count a os) l) in
      let e : p + lower a os + count a os ≡ p + lower (suc a) os = omega (arith, lower_next a os) in
      ap (λ (x : List ℕ). moved_in listed (p + lower a os) x (map (λ k. count k os) x ++ t) ds rs) is
      ∙ ap (λ (x : ℕ). moved_in listed x ks (map (λ k. count k os) ks ++ t) (drop 1 ds) (set rs a (get_or listed (row_of a (p + lower a os) (get_or ds 0 0)) []))) e

  after_fixed : (a n : ℕ) (t ds : List ℕ) (rs : List (List ℕ)) → count a os ≡ 0 → after a (suc n) t ds rs ≡ after (suc a) n t ds rs
  unfolding movable_from
  after_fixed a n t ds rs z =
      let e : p + lower a os ≡ p + lower (suc a) os = omega (arith, lower_next a os) in
      rw (z, e)

  -- outside of these n nothing is moved
  outside : (a n : ℕ) (t ds : List ℕ) (rs : List (List ℕ)) (j : ℕ) → (j < a) ⊎ (a + n ≤ j) → get_or (after a n t ds rs) j [] ≡ get_or rs j []
  unfolding movable_from moved_in
  outside a zero t ds rs j o = refl
  outside a (suc n) t ds rs j o =
      let far : (j ≡ a → ⊥) × ((j < suc a) ⊎ (suc a + n ≤ j)) = ⊎_elim (λ l. ((λ e. omega arith), inl (omega arith))) (λ l. ((λ e. omega arith), inr (omega arith))) o in
      go (dec_lt 0 (count a os)) far.0 (λ es qs. outside (suc a) n t es qs j far.1)
    where
      go : Dec (0 < count a os) → (j ≡ a → ⊥) → ((es : List ℕ) (qs : List (List ℕ)) → get_or (after (suc a) n t es qs) j [] ≡ get_or qs j []) → get_or (after a (suc n) t ds rs) j [] ≡ get_or rs j []
      go (yes l) ne ih =
          let r = get_or listed (row_of a (p + lower a os) (get_or ds 0 0)) [] in
          ap (λ (x : List (List ℕ)). get_or x j []) (after_movable a n t ds rs l) ∙ ih (drop 1 ds) (set rs a r) ∙ get_or-set_other rs a j r [] ne
      go (no l) ne ih = ap (λ (x : List (List ℕ)). get_or x j []) (after_fixed a n t ds rs (omega arith)) ∙ ih ds rs

  -- inside, each has the row that its digit gives it
  inside : (a n : ℕ) (t ds : List ℕ) (rs : List (List ℕ)) (j : ℕ) → a ≤ j → j < a + n → a + n ≤ length rs → ((i : ℕ) → a ≤ i → get_or rs i [] ≡ get_or listed i []) → j ≤ 151
      → get_or (after a n t ds rs) j [] ≡ get_or listed (row_of j (p + lower j os) (digit_for (movable_from os a n) ds j)) []
  unfolding movable_from
  inside a zero t ds rs j l u h same few = absurd (omega arith)
  inside a (suc n) t ds rs j l u h same few = go (dec_lt 0 (count a os)) (ℕ_discrete j a) (λ es qs. inside (suc a) n t es qs j)
    where
      row : ℕ → List ℕ
      row d = get_or listed (row_of j (p + lower j os) d) []

      go : Dec (0 < count a os) → Dec (j ≡ a)
          → ((es : List ℕ) (qs : List (List ℕ)) → suc a ≤ j → j < suc a + n → suc a + n ≤ length qs → ((i : ℕ) → suc a ≤ i → get_or qs i [] ≡ get_or listed i []) → j ≤ 151
          → get_or (after (suc a) n t es qs) j [] ≡ row (digit_for (movable_from os (suc a) n) es j))
          → get_or (after a (suc n) t ds rs) j [] ≡ row (digit_for (movable_from os a (suc n)) ds j)
      go (yes m) (yes e) ih =
          let r = get_or listed (row_of a (p + lower a os) (get_or ds 0 0)) [] in
          let this : get_or (set rs a r) j [] ≡ row (get_or ds 0 0) =
          subst (λ (i : ℕ). get_or (set rs a r) i [] ≡ get_or listed (row_of i (p + lower i os) (get_or ds 0 0)) []) (sym e) (get_or-set_same rs a r [] (omega arith))
          in
          let digit : digit_for (movable_from os a (suc n)) ds j ≡ get_or ds 0 0 = rw (lt-ltb 0 (count a os) m) (digit_cons a (movable_from os (suc a) n) ds j ∙ rw (eq-eqb a j (sym e))) in
          ap (λ (x : List (List ℕ)). get_or x j []) (after_movable a n t ds rs m) ∙ outside (suc a) n t (drop 1 ds) (set rs a r) j (inl (omega arith))
          ∙ this ∙ ap row (sym digit)
      go (yes m) (no ne) ih =
          let r = get_or listed (row_of a (p + lower a os) (get_or ds 0 0)) [] in
          let digit : digit_for (movable_from os a (suc n)) ds j ≡ digit_for (movable_from os (suc a) n) (drop 1 ds) j =
          rw (lt-ltb 0 (count a os) m) (digit_cons a (movable_from os (suc a) n) ds j ∙ rw (ne_eqb a j (λ z. ne (sym z))))
          in
          ap (λ (x : List (List ℕ)). get_or x j []) (after_movable a n t ds rs m)
          ∙ ih (drop 1 ds) (set rs a r) (omega arith) (omega arith) (omega (arith, length-set rs a r)) (λ i q. get_or-set_other rs a i r [] (λ z. omega arith) ∙ same i (omega arith)) few
          ∙ ap row (sym digit)
      go (no m) (yes e) ih =
          let z : count a os ≡ 0 = omega arith in
          let own : min j 151 ≡ j = omega arith in
          ap (λ (x : List (List ℕ)). get_or x j []) (after_fixed a n t ds rs z) ∙ outside (suc a) n t ds rs j (inl (omega arith)) ∙ same j l
          ∙ sym (rw (z, digit_under os (suc a) n ds j (omega arith), own))
      go (no m) (no ne) ih =
          let z : count a os ≡ 0 = omega arith in
          ap (λ (x : List (List ℕ)). get_or x j []) (after_fixed a n t ds rs z) ∙ ih ds rs (omega arith) (omega arith) (omega arith) (λ i q. same i (omega arith)) few ∙ sym (rw z)

-- the ends of the lightpaths stay
ends_kept : (f : Ends → ℕ) (r : ℕ → Route) (k : ℕ) (ps : List Lightpath) → map (λ (p : Lightpath). f p.ends) (rerouted r k ps) ≡ map (λ (p : Lightpath). f p.ends) ps
unfolding rerouted
ends_kept f r k [] = refl
ends_kept f r k (p ∷ ps) = ap (λ (l : List ℕ). f p.ends ∷ l) (ends_kept f r (suc k) ps)

module _ (m : RouteBook) (ds : List ℕ) (w : well_formed m ≡ true) (v : valid (sizes m) ds ≡ true) where
  abbrev all : List (List ℕ)
  all = routes_of m.lightpaths m.alternatives

  abbrev chosen_routes : List (List ℕ)
  chosen_routes = routes_of (rerouted (route_by m ds) 0 m.lightpaths) m.alternatives

  few : (length m.lightpaths ≤ 96) × (length m.alternatives ≤ 56)
  few = let c = counts m w in (c.2, c.3)

  -- the row of the route that digit d gives lightpath j
  row_by : (j : ℕ) → j < length m.lightpaths → (d : ℕ) → d < length (routes_for m j)
      → get_or all (row_of j (length m.lightpaths + lower j (owners m)) d) [] ≡ (get_or (routes_for m j) d no_route).spans
  row_by j l zero u = let own : min j 151 ≡ j = omega (arith, few) in rw own (route_here m j l)
  row_by j l (suc e) u =
      let p = length m.lightpaths in
      let at = lower j (owners m) + e in
      let less : e < count j (owners m) = omega (arith, many_of j m.alternatives) in
      let bound : at < length m.alternatives = omega (arith, lower_next j (owners m), lower_most (suc j) (owners m), length-map m.alternatives lightpath_of) in
      let is : row_of j (p + lower j (owners m)) (suc e) ≡ length (map route_of m.lightpaths) + at = rw (ne_eqb (suc e) 0 (λ z. omega arith)) (omega (arith, few, length-map m.lightpaths route_of)) in
      ap (λ (i : ℕ). get_or all i []) is ∙ get_or-append-add (map route_of m.lightpaths) (map alt_route m.alternatives) at []
      ∙ get_or-map alt_route m.alternatives at (record { lightpath = 0; route = no_route })
      ∙ ap (λ (r : Route). r.spans) (sym (get_or-map route_of_alternative m.alternatives at (record { lightpath = 0; route = no_route })) ∙ sym (listed_at m w j e less))

  abbrev t : List ℕ
  t = replicate (8 - length (map (λ k. count k (owners m)) (movable m))) 0

  each : (j : ℕ) → get_or (after all (owners m) (length m.lightpaths) 0 (length m.lightpaths) t ds all) j [] ≡ get_or chosen_routes j []
  each j = go (dec_lt j (length m.lightpaths))
    where
      long : length (map route_of (rerouted (route_by m ds) 0 m.lightpaths)) ≡ length m.lightpaths
      long = length-map (rerouted (route_by m ds) 0 m.lightpaths) route_of ∙ length_rerouted (route_by m ds) 0 m.lightpaths

      go : Dec (j < length m.lightpaths) → get_or (after all (owners m) (length m.lightpaths) 0 (length m.lightpaths) t ds all) j [] ≡ get_or chosen_routes j []
      go (yes l) =
          inside all (owners m) (length m.lightpaths) 0 (length m.lightpaths) t ds all j (omega arith) (omega arith)
          (omega (arith, length-append (map route_of m.lightpaths) (map alt_route m.alternatives), length-map m.lightpaths route_of)) (λ i q. refl) (omega (arith, few))
          ∙ row_by j l (digit_for (movable m) ds j) (digit_below m ds j v)
          ∙ sym (get_or-append (map route_of (rerouted (route_by m ds) 0 m.lightpaths)) (map alt_route m.alternatives) [] j (omega (arith, long))
          ∙ get_or-map route_of (rerouted (route_by m ds) 0 m.lightpaths) j no_lightpath ∙ ap (λ (r : Route). r.spans) (rerouted_at (route_by m ds) 0 m.lightpaths j l ∙ ap (route_by m ds) (omega arith)))
      go (no l) =
          let e : j ≡ length (map route_of m.lightpaths) + (j - length m.lightpaths) = omega (arith, length-map m.lightpaths route_of) in
          let f : j ≡ length (map route_of (rerouted (route_by m ds) 0 m.lightpaths)) + (j - length m.lightpaths) = omega (arith, long) in
          outside all (owners m) (length m.lightpaths) 0 (length m.lightpaths) t ds all j (inr (omega arith))
          ∙ ap (λ (i : ℕ). get_or all i []) e ∙ get_or-append-add (map route_of m.lightpaths) (map alt_route m.alternatives) (j - length m.lightpaths) []
          ∙ sym (ap (λ (i : ℕ). get_or chosen_routes i []) f ∙ get_or-append-add (map route_of (rerouted (route_by m ds) 0 m.lightpaths)) (map alt_route m.alternatives) (j - length m.lightpaths) [])

  all_moved : moved_in all (length m.lightpaths) (movable m) (alternatives_each m) ds all ≡ chosen_routes
  unfolding padded
  all_moved =
      let p = length m.lightpaths in
      let z : p ≡ p + lower 0 (owners m) = omega (arith, lower_none (owners m)) in
      let long : length all ≡ length chosen_routes = length-append (map route_of m.lightpaths) (map alt_route m.alternatives)
      ∙ ap (λ (n : ℕ). n + length (map alt_route m.alternatives)) (length-map m.lightpaths route_of ∙ sym (length-map (rerouted (route_by m ds) 0 m.lightpaths) route_of ∙ length_rerouted (route_by m ds) 0 m.lightpaths))
      ∙ sym (length-append (map route_of (rerouted (route_by m ds) 0 m.lightpaths)) (map alt_route m.alternatives))
      in
      ap (λ (x : ℕ). moved_in all x (movable m) (alternatives_each m) ds all) z
      ∙ ext_get_or [] _ chosen_routes (length_moved all (p + lower 0 (owners m)) (movable m) (alternatives_each m) ds all ∙ long) (λ j l. each j)

  -- THE LAW
  pub chosen-in : chosen_in (book_of m) (movables_of m) (record { digits = ds }) ≡ book_of (chosen_by m ds)
  unfolding padded
  chosen-in =
      let p = length m.lightpaths in
      let r = route_by m ds in
      let n : min (length (movable m)) 8 ≡ length (movable m) = omega (arith, eight_most m w) in
      let ks : take (min (length (movable m)) 8) (padded 8 (movable m)) ≡ movable m = ap (λ (x : ℕ). take x (padded 8 (movable m))) n ∙ take_at (movable m) _ (length (movable m)) refl in
      let within : p ≤ length all = omega (arith, length-append (map route_of m.lightpaths) (map alt_route m.alternatives), length-map m.lightpaths route_of) in
      let rows_are : moved (rows_of all) p (take (min (length (movable m)) 8) (padded 8 (movable m))) (alternatives_each m) ds (rows_of all) ≡ rows_of chosen_routes =
      ap (λ (x : List ℕ). moved (rows_of all) p x (alternatives_each m) ds (rows_of all)) ks
      ∙ moved_rows all p p (movable m) (alternatives_each m) ds all (routes_short m w) (routes_short m w) few.0 within (movable_each {P = λ j. j < p} (owners m) 0 p (λ j l u. omega arith))
      ∙ ap rows_of all_moved
      in
      ap (with_rows_of (book_of m)) rows_are
      ∙ λ i. remade (length m.nodes) (length m.spans) (sym (length_rerouted r 0 m.lightpaths) i) (length m.alternatives) (station_set m.nodes)
      (padded 128 (map (λ (x : Span). x.left) m.spans)) (padded 128 (map (λ (x : Span). x.right) m.spans)) (padded 128 (map (λ (x : Span). x.limit) m.spans))
      (padded 96 (sym (ends_kept (λ (e : Ends). e.from) r 0 m.lightpaths) i)) (padded 96 (sym (ends_kept (λ (e : Ends). e.to) r 0 m.lightpaths) i)) (padded 56 (owners m))
      (rows_of chosen_routes).len (rows_of chosen_routes).route (rows_of chosen_routes).low (rows_of chosen_routes).high
