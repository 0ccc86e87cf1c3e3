-- THE CHOSEN BOOK: for every valid row of digits it is well formed, so what is written of it reads back as it; its choice 0 is itself.
-- A digit is at most the number of its lightpath's alternatives, so it picks a route of the book, and every one of these fits its lightpath's ends.
use Prim.Native.Nat.{ℕ, zero, suc, ◌+◌, ◌≤◌, ◌<◌, zero-le}
use mathlib.Core.Path.{◌≡◌, refl, sym, ap, ap₂, ◌∙◌, subst}
use mathlib.Core.List.{List, [], ◌∷◌, ◌++◌, map}
use mathlib.Core.Bool.{Bool, true, false, cond}
use native.Mathlib.Omega.{arith}
use lib.ListN.{length, get_or, replicate, get_or-map}
use lib.Dec.{eqb, ltb}
use borrow.Author.Tests.{eqb-true, ltb-true}
use Rattle.book.specs.Book.{Span, Route, Ends, Lightpath, Alternative, RouteBook, every, count, ends_of, ends_at, lightpath_of, follows, lightpath_ends, counts_fit, route_fits, lightpath_fits, alternative_fits, well_formed}
use Rattle.book.specs.Format.{encode, good, reading}
use Rattle.book.specs.Memory.{padded}
use Rattle.book.specs.Choice.{owners, movable, alternatives_each, sizes, valid, digits, no_route, lightpath_at, alternatives_of, routes_for, digit_for, route_by, rerouted, chosen_by, chosen}
use Rattle.book.proofs.Tests.{and_inv, and_both}
use Rattle.book.proofs.Parts.{Parts, parts, whole}
use Rattle.book.proofs.Format.{reading_back}
use Rattle.book.proofs.Bounds.{lightpath-fits}
use Rattle.book.proofs.Numbering.{Sizes, digits_zero, digits_valid}

-- every digit has a value
sizes_of : (ws : List ℕ) → Sizes (map suc ws)
unfolding Sizes
sizes_of [] = tt
sizes_of (w ∷ ws) = (omega arith, sizes_of ws)

pub sizes_above : (m : RouteBook) → Sizes (sizes m)
sizes_above m = sizes_of (alternatives_each m)

-- a digit is at most the number of alternatives of its lightpath
digit_most : (c : ℕ → ℕ) (vs t ds : List ℕ) (k : ℕ) → valid (map suc (map c vs ++ t)) ds ≡ true → digit_for vs ds k ≤ c k
unfolding valid digit_for
digit_most c [] t ds k v = zero-le
digit_most c (x ∷ vs) t [] k v = zero-le
digit_most c (x ∷ vs) t (d ∷ ds) k v =
    let a = and_inv {a = ltb d (suc (c x))} v in
    go (eqb x k) refl (ltb-true d (suc (c x)) a.0) (digit_most c vs t ds k a.1)
  where
    go : (t : Bool) → eqb x k ≡ t → d < suc (c x) → digit_for vs ds k ≤ c k → cond t d (digit_for vs ds k) ≤ c k
    go true e l ih = subst (λ (y : ℕ). d ≤ c y) (eqb-true x k e) (omega arith)
    go false e l ih = ih

pub many_of : (k : ℕ) (als : List Alternative) → length (alternatives_of k als) ≡ count k (map lightpath_of als)
unfolding alternatives_of count
many_of k [] = refl
many_of k (a ∷ als) = go (eqb a.lightpath k) (many_of k als)
  where
    go : (t : Bool) → length (alternatives_of k als) ≡ count k (map lightpath_of als)
        → length (cond t (a.route ∷ alternatives_of k als) (alternatives_of k als)) ≡ cond t 1 0 + count k (map lightpath_of als)
    go true ih = ap suc ih ∙ omega arith
    go false ih = ih ∙ omega arith

pub digit_below : (m : RouteBook) (ds : List ℕ) (k : ℕ) → valid (sizes m) ds ≡ true → digit_for (movable m) ds k < length (routes_for m k)
unfolding padded
digit_below m ds k v = omega (arith, digit_most (λ k. count k (owners m)) (movable m) _ ds k v, many_of k m.alternatives)

-- lightpaths with other routes
pub length_rerouted : (r : ℕ → Route) (k : ℕ) (ps : List Lightpath) → length (rerouted r k ps) ≡ length ps
unfolding rerouted
length_rerouted r k [] = refl
length_rerouted r k (p ∷ ps) = ap suc (length_rerouted r (suc k) ps)

pub ends_rerouted : (r : ℕ → Route) (k : ℕ) (ps : List Lightpath) → map ends_of (rerouted r k ps) ≡ map ends_of ps
unfolding rerouted
ends_rerouted r k [] = refl
ends_rerouted r k (p ∷ ps) = ap (λ (l : List Ends). p.ends ∷ l) (ends_rerouted r (suc k) ps)

pub rerouted_at : (r : ℕ → Route) (k : ℕ) (ps : List Lightpath) (j : ℕ) → j < length ps → (lightpath_at (rerouted r k ps) j).route ≡ r (k + j)
unfolding rerouted
rerouted_at r k [] j l = absurd (omega arith)
rerouted_at r k (p ∷ ps) zero l = ap r (omega arith)
rerouted_at r k (p ∷ ps) (suc j) l = rerouted_at r (suc k) ps j (omega arith) ∙ ap r (omega arith)

rerouted_same : (r : ℕ → Route) (k : ℕ) (ps : List Lightpath) → ((j : ℕ) → j < length ps → r (k + j) ≡ (lightpath_at ps j).route) → rerouted r k ps ≡ ps
unfolding rerouted
rerouted_same r k [] h = refl
rerouted_same r k (p ∷ ps) h =
    let e : r k ≡ p.route = ap r (omega arith) ∙ h 0 (omega arith) in
    ap₂ (λ (x : Route) (l : List Lightpath). record { ends = p.ends; route = x } ∷ l) e
    (rerouted_same r (suc k) ps (λ j l. ap r (omega arith) ∙ h (suc j) (omega arith)))

module _ (ns : List Bool) (sps : List Span) where
  lightpaths_rerouted : (r : ℕ → Route) (k : ℕ) (before before' ps : List Lightpath) → every (λ b. lightpath_fits ns sps) before ps ≡ true
      → ((j : ℕ) → j < length ps → route_fits sps (lightpath_at ps j).ends (r (k + j)) ≡ true) → every (λ b. lightpath_fits ns sps) before' (rerouted r k ps) ≡ true
  unfolding every rerouted
  lightpaths_rerouted r k before before' [] h g = refl
  lightpaths_rerouted r k before before' (p ∷ ps) h g =
      let z = and_inv {a = lightpath_fits ns sps p} h in
      and_both (and_both (and_inv {a = lightpath_ends ns p.ends} z.0).0 (subst (λ (i : ℕ). route_fits sps p.ends (r i) ≡ true) (omega arith) (g 0 (omega arith))))
      (lightpaths_rerouted r (suc k) (p ∷ before) (record { ends = p.ends; route = r k } ∷ before') ps z.1
      (λ j l. subst (λ (i : ℕ). route_fits sps (lightpath_at ps j).ends (r i) ≡ true) (omega arith) (g (suc j) (omega arith))))

  -- the alternatives of a lightpath fit its ends
  alternatives_fit : (es : List Ends) (k : ℕ) (before l : List Alternative) → every (alternative_fits sps es) before l ≡ true
      → (j : ℕ) → j < length (alternatives_of k l) → route_fits sps (ends_at es k) (get_or (alternatives_of k l) j no_route) ≡ true
  unfolding every alternatives_of
  alternatives_fit es k before [] h j q = absurd (omega arith)
  alternatives_fit es k before (a ∷ l) h j q =
      let z = and_inv {a = alternative_fits sps es before a} h in
      let f = (and_inv {a = follows (length es) (map lightpath_of before) a.lightpath} z.0).1 in
      go (eqb a.lightpath k) refl f (alternatives_fit es k (a ∷ before) l z.1) j q
    where
      go : (t : Bool) → eqb a.lightpath k ≡ t → route_fits sps (ends_at es a.lightpath) a.route ≡ true
          → ((i : ℕ) → i < length (alternatives_of k l) → route_fits sps (ends_at es k) (get_or (alternatives_of k l) i no_route) ≡ true)
          → (i : ℕ) → i < length (cond t (a.route ∷ alternatives_of k l) (alternatives_of k l))
          → route_fits sps (ends_at es k) (get_or (cond t (a.route ∷ alternatives_of k l) (alternatives_of k l)) i no_route) ≡ true
      go true e f ih zero u = subst (λ (i : ℕ). route_fits sps (ends_at es i) a.route ≡ true) (eqb-true a.lightpath k e) f
      go true e f ih (suc i) u = ih i (omega arith)
      go false e f ih i u = ih i u

module _ (m : RouteBook) (ds : List ℕ) (w : well_formed m ≡ true) (v : valid (sizes m) ds ≡ true) where
  it : Parts m
  it = parts m w

  -- each route of lightpath k fits it
  routes_fit : (k : ℕ) → k < length m.lightpaths → (j : ℕ) → j < length (routes_for m k)
      → route_fits m.spans (lightpath_at m.lightpaths k).ends (get_or (routes_for m k) j no_route) ≡ true
  routes_fit k l zero u =
      (and_inv {a = lightpath_ends m.nodes (lightpath_at m.lightpaths k).ends}
      (lightpath-fits m w k l)).1
  routes_fit k l (suc j) u =
      subst (λ (e : Ends). route_fits m.spans e (get_or (alternatives_of k m.alternatives) j no_route) ≡ true)
      (get_or-map ends_of m.lightpaths k (record { ends = record { from = 0; to = 0 }; route = no_route }))
      (alternatives_fit m.nodes m.spans (map ends_of m.lightpaths) k [] m.alternatives it.alternatives j (omega arith))

  chosen_parts : Parts (chosen_by m ds)
  chosen_parts = record {
    counts = subst (λ (x : ℕ). counts_fit (length m.nodes) (length m.spans) x (length m.alternatives) ≡ true) (sym (length_rerouted (route_by m ds) 0 m.lightpaths)) it.counts;
    station = it.station;
    spans = it.spans;
    lightpaths = lightpaths_rerouted m.nodes m.spans (route_by m ds) 0 [] [] m.lightpaths it.lightpaths
        (λ j l. subst (λ (i : ℕ). route_fits m.spans (lightpath_at m.lightpaths j).ends (route_by m ds i) ≡ true) (omega arith) (routes_fit j l (digit_for (movable m) ds j) (digit_below m ds j v)));
    alternatives = subst (λ (es : List Ends). every (alternative_fits m.spans es) [] m.alternatives ≡ true) (sym (ends_rerouted (route_by m ds) 0 m.lightpaths)) it.alternatives;
  }

  pub chosen_fits : well_formed (chosen_by m ds) ≡ true
  chosen_fits = whole (chosen_by m ds) chosen_parts

-- and so for every number, since its digits are valid
pub choice_fits : (m : RouteBook) (n : ℕ) → well_formed m ≡ true → well_formed (chosen m n) ≡ true
choice_fits m n w = chosen_fits m (digits (sizes m) n) w (digits_valid (sizes m) n (sizes_above m))

-- it has the sizes and the number of choices of the book
pub chosen_sizes : (m : RouteBook) (ds : List ℕ) → sizes (chosen_by m ds) ≡ sizes m
unfolding padded
chosen_sizes m ds = rw (length_rerouted (route_by m ds) 0 m.lightpaths)

-- a row of noughts gives every lightpath its own route
digit_nought : (vs : List ℕ) (n k : ℕ) → digit_for vs (replicate n 0) k ≡ 0
unfolding digit_for
digit_nought [] n k = refl
digit_nought (x ∷ vs) zero k = refl
digit_nought (x ∷ vs) (suc n) k = go (eqb x k) (digit_nought vs n k)
  where
    go : (t : Bool) → digit_for vs (replicate n 0) k ≡ 0 → cond t 0 (digit_for vs (replicate n 0) k) ≡ 0
    go true ih = refl
    go false ih = ih

pub own_route : (m : RouteBook) (k : ℕ) → route_by m (digits (sizes m) 0) k ≡ (lightpath_at m.lightpaths k).route
own_route m k = rw (digits_zero (sizes m), digit_nought (movable m) (length (sizes m)) k)

-- choice 0 is the book as it stands
pub chosen_none : (m : RouteBook) → chosen m 0 ≡ m
chosen_none m =
    ap (λ (ps : List Lightpath). record { nodes = m.nodes; spans = m.spans; lightpaths = ps; alternatives = m.alternatives })
    (rerouted_same (route_by m (digits (sizes m) 0)) 0 m.lightpaths (λ j l. own_route m (0 + j) ∙ ap (λ (i : ℕ). (lightpath_at m.lightpaths i).route) (omega arith)))

-- the chosen book's choice 0 has the routes of the choice
pub chosen_zero : (m : RouteBook) (ds : List ℕ) (k : ℕ) → k < length m.lightpaths → route_by (chosen_by m ds) (digits (sizes (chosen_by m ds)) 0) k ≡ route_by m ds k
chosen_zero m ds k l = own_route (chosen_by m ds) k ∙ rerouted_at (route_by m ds) 0 m.lightpaths k l ∙ ap (route_by m ds) (omega arith)

-- and it reads back
pub chosen_reads : (m : RouteBook) (n : ℕ) → well_formed m ≡ true → reading (encode (chosen m n)) ≡ good (chosen m n)
chosen_reads m n w = reading_back (chosen m n) (choice_fits m n w)
