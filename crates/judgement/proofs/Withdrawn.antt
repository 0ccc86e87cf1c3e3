-- A BOOKING WITHDRAWN: a chain of lightpaths that are up is still one when more are up, so whatever a state joins a state with no less up joins too.
-- Fewer spans open, or one lightpath more, leave no less up; more lightpaths on a span leave no more up without it.
use Prim.Native.Nat.{ℕ, zero, suc, ◌<◌}
use mathlib.Core.Path.{◌≡◌, refl, sym, ap, ◌∙◌, subst}
use mathlib.Core.List.{List, [], ◌∷◌, ◌++◌, map}
use mathlib.Core.Logic.{◌⊎◌, inl, inr}
use mathlib.Core.Bool.{Bool, true, false, not, ◌&&◌, ◌||◌, false≢true}
use native.Mathlib.Nat.{le_refl}
use native.Mathlib.Omega.{arith}
use lib.Dec.{eqb}
use lib.Count.{count_trailing_zeros}
use lib.ListN.{length, length-append}
use Rattle.book.specs.Bits.{has, station_set}
use Rattle.book.specs.Book.{Lightpath, RouteBook, most_nodes, among, ends_of, well_formed}
use Rattle.book.specs.Choice.{lightpath_at, sizes, digits, route_by, chosen}
use Rattle.book.proofs.Bits.{has_true, true_has}
use Rattle.book.proofs.Chosen.{ends_rerouted, choice_fits}
use Rattle.book.proofs.Tests.{and_inv, and_both}
use Rattle.judgement.specs.Network.{Network, Link, Joined, start, more, side_of}
use Rattle.judgement.specs.Judgement.{rides, network, without, all_up, verdict, acceptable}
use Rattle.judgement.specs.Cuts.{AllJoined}
use Rattle.judgement.specs.declared.Verdict.TheVariants.{Cut}
use Rattle.judgement.specs.Meaning.{IsCut}
use Rattle.judgement.specs.Withdrawn.{none_of, up_with, PartOf, also, with_one, NoLess}
use Rattle.judgement.proofs.Joins.{side_joined}
use Rattle.judgement.proofs.Changes.{alike}
use Rattle.judgement.proofs.Verdicts.{cut_exact, acceptable_joined}

-- THE LAW: a state with no less up joins no less
module _ {net net' : Network} {up up' : ℕ → Bool} (w : NoLess net up net' up') where
  link_stays : {x y : ℕ} → Link net up x y → Link net' up' x y
  link_stays {x} {y} l = record { number = k; below = omega (arith, l.below, w.count); is_up = w.stays k l.below l.is_up; runs = go l.runs }
    where
      k : ℕ
      k = l.number

      go : ((net.from k ≡ x) × (net.to k ≡ y)) ⊎ ((net.to k ≡ x) × (net.from k ≡ y)) → ((net'.from k ≡ x) × (net'.to k ≡ y)) ⊎ ((net'.to k ≡ x) × (net'.from k ≡ y))
      go (inl r) = inl (sym (w.from k l.below) ∙ r.0, sym (w.to k l.below) ∙ r.1)
      go (inr r) = inr (sym (w.to k l.below) ∙ r.0, sym (w.from k l.below) ∙ r.1)

  pub joined_stays : {s i : ℕ} → Joined net up s i → Joined net' up' s i
  joined_stays start = start
  joined_stays (more j l) = more (joined_stays j) (link_stays l)

  -- so sides, of whatever width, lose nothing
  pub side_stays : (W : ℕ) → ((k : ℕ) → k < net.count → (net.from k < W) × (net.to k < W)) → ((k : ℕ) → k < net'.count → (net'.from k < W) × (net'.to k < W))
      → (s i : ℕ) → s < W → has (side_of net up W s) i ≡ true → has (side_of net' up' W s) i ≡ true
  side_stays W ends ends' s i l h = has_true _ i ((side_joined net' up' W ends' s l i).1 (joined_stays ((side_joined net up W ends s l i).0 (true_has _ i h))))

-- sets of spans
pub not_less : (p b : Bool) → (p ≡ true → b ≡ true) → not b ≡ true → not p ≡ true
not_less true b f e = absurd (false≢true (sym (ap not (f refl)) ∙ e))
not_less false b f e = refl

none_less : {part booked : ℕ → Bool} → PartOf part booked → (xs : List ℕ) → none_of booked xs ≡ true → none_of part xs ≡ true
unfolding none_of
none_less f [] e = refl
none_less {part} {booked} f (x ∷ xs) e =
    let b = and_inv {b = none_of booked xs} e in
    and_both (not_less (part x) (booked x) (f x) b.0) (none_less f xs b.1)

pub also_less : {part booked : ℕ → Bool} (loss : ℕ → Bool) → PartOf part booked → PartOf (also part loss) (also booked loss)
also_less {part} {booked} loss f x = go (part x) (booked x) (loss x) (f x)
  where
    go : (p b l : Bool) → (p ≡ true → b ≡ true) → (p || l) ≡ true → (b || l) ≡ true
    go true b l g e = ap (λ (t : Bool). t || l) (g refl)
    go false true l g e = refl
    go false false l g e = e

-- (a), (b): with a part of a set open no less is up, and neither with the same further loss
module _ (m : RouteBook) {part booked : ℕ → Bool} (f : PartOf part booked) where
  pub part_no_less : NoLess (network m) (up_with m booked) (network m) (up_with m part)
  part_no_less = record { count = le_refl _; from = λ k l. refl; to = λ k l. refl; stays = λ k l e. none_less f (lightpath_at m.lightpaths k).route.spans e }

  -- THE LAW (a): what may be opened together may be opened in part
  pub withdrawn_joined : AllJoined m (up_with m booked) → AllJoined m (up_with m part)
  withdrawn_joined all i h = joined_stays part_no_less (all i h)

-- THE LAW (b): and a further loss that can be borne with the whole set can be borne with the part
pub withdrawn_loss : (m : RouteBook) {part booked : ℕ → Bool} (loss : ℕ → Bool) → PartOf part booked → AllJoined m (up_with m (also booked loss)) → AllJoined m (up_with m (also part loss))
withdrawn_loss m loss f = withdrawn_joined m (also_less loss f)

-- one lightpath more, after the others
at_before : (p : Lightpath) (lps : List Lightpath) (k : ℕ) → k < length lps → lightpath_at (lps ++ (p ∷ [])) k ≡ lightpath_at lps k
at_before p [] k l = absurd (omega arith)
at_before p (q ∷ lps) zero l = refl
at_before p (q ∷ lps) (suc k) l = at_before p lps k (omega arith)

module _ (m : RouteBook) (p : Lightpath) (booked : ℕ → Bool) where
  same_at : (k : ℕ) → k < length m.lightpaths → lightpath_at (with_one m p).lightpaths k ≡ lightpath_at m.lightpaths k
  same_at k l = at_before p m.lightpaths k l

  pub added_no_less : NoLess (network m) (up_with m booked) (network (with_one m p)) (up_with (with_one m p) booked)
  added_no_less = record {
    count = omega (arith, length-append m.lightpaths (p ∷ []));
    from = λ k l. ap (λ (q : Lightpath). q.ends.from) (sym (same_at k l));
    to = λ k l. ap (λ (q : Lightpath). q.ends.to) (sym (same_at k l));
    stays = λ k l e. ap (λ (q : Lightpath). none_of booked q.route.spans) (same_at k l) ∙ e;
  }

  -- THE LAW (c): one lightpath more never spoils what was joined, whatever is open, a further loss too
  pub added_joined : AllJoined m (up_with m booked) → AllJoined (with_one m p) (up_with (with_one m p) booked)
  added_joined all i h = joined_stays added_no_less (all i h)

pub added_loss : (m : RouteBook) (p : Lightpath) (booked loss : ℕ → Bool) → AllJoined m (up_with m (also booked loss)) → AllJoined (with_one m p) (up_with (with_one m p) (also booked loss))
added_loss m p booked loss = added_joined m p (also booked loss)

-- the states of the judgement are such states: nothing open, and one span open
none_all : (xs : List ℕ) → none_of (λ x. false) xs ≡ true
unfolding none_of
none_all [] = refl
none_all (x ∷ xs) = none_all xs

pub nothing_booked : (m : RouteBook) (k : ℕ) → up_with m (λ x. false) k ≡ all_up k
nothing_booked m k = none_all (lightpath_at m.lightpaths k).route.spans

none_one : (x : ℕ) (xs : List ℕ) → none_of (eqb x) xs ≡ not (among x xs)
unfolding none_of
none_one x [] = refl
none_one x (y ∷ ys) = go (eqb x y) (none_one x ys)
  where
    go : (t : Bool) → none_of (eqb x) ys ≡ not (among x ys) → (not t && none_of (eqb x) ys) ≡ not (t || among x ys)
    go true e = refl
    go false e = e

pub one_booked : (m : RouteBook) (x k : ℕ) → up_with m (eqb x) k ≡ without m x k
one_booked m x k = none_one x (lightpath_at m.lightpaths k).route.spans

-- WHAT FOLLOWS FOR A SEARCH: the same stations and ends, and whoever rode span x rides it still
module _ (m m' : RouteBook) (nodes : m.nodes ≡ m'.nodes) (ends : map ends_of m.lightpaths ≡ map ends_of m'.lightpaths) (x : ℕ)
    (ride : (k : ℕ) → k < length m.lightpaths → rides m x k ≡ true → rides m' x k ≡ true) where
  riders_no_less : NoLess (network m') (without m' x) (network m) (without m x)
  riders_no_less =
      let a = alike m m' nodes ends in
      record {
        count = omega (arith, a.count);
        from = λ k l. sym (a.from k (omega (arith, l, a.count)));
        to = λ k l. sym (a.to k (omega (arith, l, a.count)));
        stays = λ k l e. not_less (rides m x k) (rides m' x k) (ride k (omega (arith, l, a.count))) e;
      }

  pub cut_stays : IsCut m x → IsCut m' x
  cut_stays cut all = cut (λ i h. joined_stays riders_no_less (subst (λ (ns : List Bool). Joined (network m') (without m' x) (count_trailing_zeros most_nodes (station_set ns)) i) (sym nodes) (all i (subst (λ (ns : List Bool). has (station_set ns) i ≡ true) nodes h))))

  -- a CUT at span x in the one refuses the other too
  pub refused_too : well_formed m ≡ true → well_formed m' ≡ true → x < length m'.spans → {d : ℕ} → verdict m ≡ Cut x d → acceptable m' ≡ false
  refused_too good good' l {d} e = go (acceptable m') refl
    where
      go : (t : Bool) → acceptable m' ≡ t → acceptable m' ≡ false
      go true a = absurd (cut_stays ((cut_exact m good x d).0 e).2.holds (((acceptable_joined m' good').0 a).1.each x l))
      go false a = a

-- the same said of two choices of a book
pub choice_refused_too : (m : RouteBook) → well_formed m ≡ true → (n n' x : ℕ) → x < length m.spans
    → ((k : ℕ) → k < length (chosen m n).lightpaths → rides (chosen m n) x k ≡ true → rides (chosen m n') x k ≡ true)
    → {d : ℕ} → verdict (chosen m n) ≡ Cut x d → acceptable (chosen m n') ≡ false
choice_refused_too m good n n' x l ride =
    refused_too (chosen m n) (chosen m n') refl
    (ends_rerouted (route_by m (digits (sizes m) n)) 0 m.lightpaths ∙ sym (ends_rerouted (route_by m (digits (sizes m) n')) 0 m.lightpaths))
    x ride (choice_fits m n good) (choice_fits m n' good) l
