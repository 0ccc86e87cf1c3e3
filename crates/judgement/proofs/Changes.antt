-- What a change of the book leaves alone: SPLIT speaks of stations and ends, which no choice of routes touches.
-- And limits that are raised put no span over that was not.
use Prim.Native.Nat.{ℕ, ◌<◌, ◌≤◌}
use mathlib.Core.Path.{◌≡◌, refl, sym, ap, ◌∙◌}
use mathlib.Core.List.{List, [], map}
use mathlib.Core.Bool.{Bool, true}
use native.Mathlib.Omega.{arith}
use lib.ListN.{length, length-map, get_or-map}
use Rattle.book.specs.Book.{Ends, RouteBook, ends_of, ends_at}
use Rattle.book.specs.Choice.{route_by, lightpath_at, chosen_by}
use Rattle.book.proofs.Chosen.{ends_rerouted}
use Rattle.book.proofs.Choices.{routes_kept}
use Rattle.judgement.specs.Judgement.{load, limit, network, all_up, lowest, side, whole, split_or, is_okay, acceptable}
use Rattle.judgement.specs.Meaning.{NoneOver}
use Rattle.judgement.proofs.Alike.{Alike, side_alike}
use Rattle.judgement.proofs.Verdicts.{none_over, okay_after}

-- two books with the same nodes and the same ends of lightpaths
module _ (m m' : RouteBook) (nodes : m.nodes ≡ m'.nodes) (ends : map ends_of m.lightpaths ≡ map ends_of m'.lightpaths) where
  ends_same : (k : ℕ) → (lightpath_at m.lightpaths k).ends ≡ (lightpath_at m'.lightpaths k).ends
  ends_same k = sym (get_or-map ends_of m.lightpaths k (lightpath_at [] 0)) ∙ ap (λ (es : List Ends). ends_at es k) ends ∙ get_or-map ends_of m'.lightpaths k (lightpath_at [] 0)

  pub alike : Alike (network m) (network m') all_up all_up
  alike = record {
    count = sym (length-map m.lightpaths ends_of) ∙ ap length ends ∙ length-map m'.lightpaths ends_of;
    from = λ k l. ap (λ (e : Ends). e.from) (ends_same k);
    to = λ k l. ap (λ (e : Ends). e.to) (ends_same k);
    state = λ k l. refl;
  }

  -- THE LAW: the same side with all up, and the same answer to whether it is whole
  pub side_same : side m all_up ≡ side m' all_up
  side_same = side_alike (network m) (network m') all_up all_up alike 64 (lowest m) ∙ ap (λ (ns : List Bool). side (record { nodes = ns; spans = []; lightpaths = m'.lightpaths; alternatives = [] }) all_up) nodes

  pub whole_same : whole m all_up ≡ whole m' all_up
  whole_same = rw (side_same, nodes)

-- so SPLIT does not depend on the choice
pub side_chosen : (m : RouteBook) (ds : List ℕ) → side (chosen_by m ds) all_up ≡ side m all_up
side_chosen m ds = side_same (chosen_by m ds) m refl (ends_rerouted (route_by m ds) 0 m.lightpaths)

pub whole_chosen : (m : RouteBook) (ds : List ℕ) → whole (chosen_by m ds) all_up ≡ whole m all_up
whole_chosen m ds = whole_same (chosen_by m ds) m refl (ends_rerouted (route_by m ds) 0 m.lightpaths)

-- m' is m but for limits that are not lower
pub record Raised (m m' : RouteBook) : Type 0 where
  pub nodes : m.nodes ≡ m'.nodes
  pub lightpaths : m.lightpaths ≡ m'.lightpaths
  pub count : length m.spans ≡ length m'.spans
  pub limits : (x : ℕ) → x < length m.spans → limit m x ≤ limit m' x

module _ (m m' : RouteBook) (r : Raised m m') where
  -- the loads are the same, and what comes after OVER knows no limit
  load_same : (x : ℕ) → load m x ≡ load m' x
  load_same x = rw r.lightpaths

  after_same : split_or m ≡ split_or m'
  after_same = rw (r.nodes, r.lightpaths, r.count)

  within : NoneOver m → NoneOver m'
  within none x l =
      let low : x < length m.spans = omega (arith, r.count) in
      omega (arith, none x low, load_same x, r.limits x low)

  -- THE LAW
  pub raised : acceptable m ≡ true → acceptable m' ≡ true
  raised e = let p = okay_after m e in ap is_okay (sym (none_over m' (within p.0)) ∙ sym after_same) ∙ p.1

-- and with the alternatives kept, the book that a choice makes has its limits raised
pub raised_chosen : (m m' : RouteBook) → Raised m m' → m.alternatives ≡ m'.alternatives → (ds : List ℕ) → Raised (chosen_by m ds) (chosen_by m' ds)
raised_chosen m m' r same ds = record { nodes = r.nodes; lightpaths = routes_kept m m' r.lightpaths same ds; count = r.count; limits = r.limits }
