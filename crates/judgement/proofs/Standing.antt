-- SITES AND SPANS: whatever rides a span meets both of its ends, so closing a node takes out no less than opening a span that ends there.
-- So with three stations a book of which every site stands survives the loss of any span; with two it need not, and a book that survives may have a site down.
use Prim.Native.Nat.{ℕ, ◌<◌}
use mathlib.Core.Path.{◌≡◌, refl, sym, ap, ◌∙◌, subst}
use mathlib.Core.Logic.{◌⊎◌, inl, inr, ◌↔◌}
use mathlib.Core.Bool.{Bool, true, false, false≢true}
use native.Mathlib.Nat.{le_refl}
use native.Mathlib.Decide.{ℕ_discrete}
use lib.Dec.{eqb}
use lib.ListN.{length}
use borrow.Author.Tests.{eqb-true, eq-eqb}
use Rattle.book.specs.Book.{RouteBook, span_at, touches, well_formed}
use Rattle.book.specs.Bits.{has}
use Rattle.book.specs.Choice.{lightpath_at}
use Rattle.book.proofs.Stations.{station_has}
use Rattle.book.proofs.Stages.{station_low}
use Rattle.book.proofs.Bounds.{span-ends}
use Rattle.book.proofs.NodesMet.{met_span}
use Rattle.judgement.specs.Network.{Joined}
use Rattle.judgement.specs.Judgement.{rides, network, without, all_up, stations, lowest, verdict, acceptable}
use Rattle.judgement.specs.Cuts.{AllJoined, Survives}
use Rattle.judgement.specs.Meaning.{NoneOver, IsCut}
use Rattle.judgement.specs.Withdrawn.{NoLess}
use Rattle.judgement.specs.Sites.{meets, spared, stands, site_of, IsOther, OthersJoined, IsDown, Three, OkayOrOver, is_okay, is_over}
use Rattle.std.specs.Prelude.{None}
use Rattle.judgement.specs.declared.Verdict.{Verdict}
use Rattle.judgement.specs.declared.Verdict.TheVariants.{Over, Split, Cut}
use Rattle.judgement.specs.declared.Verdict.TheVariants as kind
use Rattle.judgement.proofs.Tests.{or_l, or_r, or_inv}
use Rattle.judgement.proofs.Chains.{join_trans, join_sym}
use Rattle.judgement.proofs.Stations.{lowest_has}
use Rattle.judgement.proofs.Loads.{route-fits}
use Rattle.judgement.proofs.Verdicts.{split_exact, cut_exact, acceptable_joined}
use Rattle.judgement.proofs.Withdrawn.{not_less, joined_stays}
use Rattle.judgement.proofs.Sites.{stands_joined, site_okay}

-- more is up with all nodes open
module _ (m : RouteBook) where
  pub open_no_less : (v : ℕ) → NoLess (network m) (spared m v) (network m) all_up
  open_no_less v = record { count = le_refl _; from = λ k l. refl; to = λ k l. refl; stays = λ k l e. refl }

-- A NODE AND A SPAN THAT ENDS THERE
module _ (m : RouteBook) (good : well_formed m ≡ true) (v x : ℕ) (end : touches (span_at m.spans x) v ≡ true) where
  pub rides_meets : (k : ℕ) → k < length m.lightpaths → rides m x k ≡ true → meets m v k ≡ true
  rides_meets k l h =
      let p = lightpath_at m.lightpaths k in
      go (met_span m.spans p.ends p.route (route-fits m good k l) x h) (or_inv (eqb (span_at m.spans x).left v) (eqb (span_at m.spans x).right v) end)
    where
      at : (i : ℕ) → eqb i v ≡ true → meets m i k ≡ true → meets m v k ≡ true
      at i e = subst (λ (n : ℕ). meets m n k ≡ true) (eqb-true i v e)

      go : (meets m (span_at m.spans x).left k ≡ true) × (meets m (span_at m.spans x).right k ≡ true)
          → (eqb (span_at m.spans x).left v ≡ true) ⊎ (eqb (span_at m.spans x).right v ≡ true) → meets m v k ≡ true
      go both (inl e) = at _ e both.0
      go both (inr e) = at _ e both.1

  -- THE LAW: closing the node leaves no more up than opening the span
  pub closed_no_less : NoLess (network m) (spared m v) (network m) (without m x)
  closed_no_less = record {
    count = le_refl _;
    from = λ k l. refl;
    to = λ k l. refl;
    stays = λ k l e. not_less (rides m x k) (meets m v k) (rides_meets k l) e;
  }

  -- so others that stand are joined with the span out
  pub others_stay : OthersJoined m v → (i j : ℕ) → IsOther m v i → IsOther m v j → Joined (network m) (without m x) i j
  others_stay all i j a b = joined_stays closed_no_less (all i j a b)

  -- and where the span's loss parts the stations, the one that is parted is the node itself
  pub cut_alone : OthersJoined m v → IsCut m x
      → (has (stations m) v ≡ true) × ((i : ℕ) → IsOther m v i → Joined (network m) (without m x) v i → ⊥)
      × ((i j : ℕ) → IsOther m v i → IsOther m v j → Joined (network m) (without m x) i j)
  cut_alone all cut = (station (has (stations m) v) refl, apart, others_stay all)
    where
      station : (t : Bool) → has (stations m) v ≡ t → t ≡ true
      station true h = refl
      station false h = absurd (cut (λ i s. others_stay all (lowest m) i (lowest_has m good, other (lowest_has m good)) (s, other s)))
        where
          other : {i : ℕ} → has (stations m) i ≡ true → i ≡ v → ⊥
          other s e = false≢true (sym h ∙ ap (has (stations m)) (sym e) ∙ s)

      apart : (i : ℕ) → IsOther m v i → Joined (network m) (without m x) v i → ⊥
      apart i o j = cut (λ k s. join_trans (network m) (without m x) (to (lowest m) (lowest_has m good)) (join_sym (network m) (without m x) (to k s)))
        where
          to : (k : ℕ) → has (stations m) k ≡ true → Joined (network m) (without m x) k i
          to k s = elim (ℕ_discrete k v) [ yes e ↦ subst (λ (n : ℕ). Joined (network m) (without m x) n i) (sym e) j | no n ↦ others_stay all k i (s, n) o ]

-- of three stations one is neither of two nodes
module _ (m : RouteBook) (three : Three m) where
  record Third (i j : ℕ) : Type 0 where
    node : ℕ
    station : has (stations m) node ≡ true
    not_i : node ≡ i → ⊥
    not_j : node ≡ j → ⊥

  third : (i j : ℕ) → Third i j
  third i j = go (ℕ_discrete three.a i) (ℕ_discrete three.a j) (ℕ_discrete three.b i) (ℕ_discrete three.b j)
    where
      last : (three.c ≡ i → ⊥) → (three.c ≡ j → ⊥) → Third i j
      last p q = record { node = three.c; station = three.c_station; not_i = p; not_j = q }

      go : Dec (three.a ≡ i) → Dec (three.a ≡ j) → Dec (three.b ≡ i) → Dec (three.b ≡ j) → Third i j
      go (no p) (no q) _ _ = record { node = three.a; station = three.a_station; not_i = p; not_j = q }
      go (yes p) _ (yes r) _ = absurd (three.a_b (p ∙ sym r))
      go (yes p) _ (no r) (no s) = record { node = three.b; station = three.b_station; not_i = r; not_j = s }
      go (yes p) _ (no r) (yes s) = last (λ e. three.a_c (p ∙ sym e)) (λ e. three.b_c (s ∙ sym e))
      go (no p) (yes q) (no r) (no s) = record { node = three.b; station = three.b_station; not_i = r; not_j = s }
      go (no p) (yes q) (yes r) _ = last (λ e. three.b_c (r ∙ sym e)) (λ e. three.a_c (q ∙ sym e))
      go (no p) (yes q) (no r) (yes s) = absurd (three.a_b (q ∙ sym s))

module _ (m : RouteBook) (good : well_formed m ≡ true) (three : Three m) where
  -- A SPAN, with both its ends closed in turn: a third station ties the two ends together
  pub span_both : (x : ℕ) → x < length m.spans → OthersJoined m (span_at m.spans x).left → OthersJoined m (span_at m.spans x).right → AllJoined m (without m x)
  span_both x l left right i s = any (lowest m) i (lowest_has m good) s
    where
      u : ℕ
      u = (span_at m.spans x).left

      w : ℕ
      w = (span_at m.spans x).right

      differ : u ≡ w → ⊥
      differ = (span-ends m good x l).2

      Two : ℕ → ℕ → Type 0
      Two i j = Joined (network m) (without m x) i j

      by_left : {i j : ℕ} → IsOther m u i → IsOther m u j → Two i j
      by_left {i} {j} = others_stay m good u x (or_l (eqb w u) (eq-eqb u u refl)) left i j

      by_right : {i j : ℕ} → IsOther m w i → IsOther m w j → Two i j
      by_right {i} {j} = others_stay m good w x (or_r (eqb u w) (eq-eqb w w refl)) right i j

      any : (i j : ℕ) → has (stations m) i ≡ true → has (stations m) j ≡ true → Two i j
      any i j a b = go (third m three i j) (ℕ_discrete i u) (ℕ_discrete j u) (ℕ_discrete i w) (ℕ_discrete j w)
        where
          go : Third m three i j → Dec (i ≡ u) → Dec (j ≡ u) → Dec (i ≡ w) → Dec (j ≡ w) → Two i j
          go t (no p) (no q) _ _ = by_left (a, p) (b, q)
          go t (yes p) _ (yes r) _ = absurd (differ (sym p ∙ r))
          go t (yes p) _ (no r) (no s) = by_right (a, r) (b, s)
          go t (yes p) _ (no r) (yes s) =
              join_trans (network m) (without m x) (by_right (a, r) (t.station, λ e. t.not_j (e ∙ sym s)))
              (by_left (t.station, λ e. t.not_i (e ∙ sym p)) (b, λ e. differ (sym e ∙ s)))
          go t (no p) (yes q) _ (yes s) = absurd (differ (sym q ∙ s))
          go t (no p) (yes q) (no r) (no s) = by_right (a, r) (b, s)
          go t (no p) (yes q) (yes r) (no s) =
              join_trans (network m) (without m x) (by_left (a, p) (t.station, λ e. t.not_j (e ∙ sym q)))
              (by_right (t.station, λ e. t.not_i (e ∙ sym r)) (b, s))

  -- so where a span's loss parts the stations, the site at one of its ends is down
  pub cut_end_down : (x : ℕ) → x < length m.spans → IsCut m x → IsDown m (span_at m.spans x).left ⊎ IsDown m (span_at m.spans x).right
  cut_end_down x l cut = go (stands m u) refl
    where
      u : ℕ
      u = (span_at m.spans x).left

      w : ℕ
      w = (span_at m.spans x).right

      go : (t : Bool) → stands m u ≡ t → IsDown m u ⊎ IsDown m w
      go true e = inr (λ all. cut (span_both x l ((stands_joined m good u).0 e) all))
      go false e = inl (λ all. false≢true (sym e ∙ (stands_joined m good u).1 all))

  -- THE LAW: where every site stands the book survives
  pub site_survives : site_of m ≡ None → Survives m
  site_survives e = record {
    intact = λ i s. let t = third m three (lowest m) i in
        joined_stays (open_no_less m t.node) (all t.node (node_lt t.station) (lowest m) i (lowest_has m good, λ q. t.not_i (sym q)) (s, λ q. t.not_j (sym q)));
    each = λ x l. let n = span-ends m good x l in span_both x l (all _ n.0) (all _ n.1);
  }
    where
      all : (v : ℕ) → v < length m.nodes → OthersJoined m v
      all = (site_okay m good).0 e

      node_lt : {i : ℕ} → has (stations m) i ≡ true → i < length m.nodes
      node_lt {i} s = station_low m.nodes i (sym (station_has m.nodes i) ∙ s)

  -- so it is acceptable unless a span is over: its verdict is OK or OVER
  pub site_acceptable : site_of m ≡ None → (acceptable m ≡ true) ↔ NoneOver m
  site_acceptable e = ((λ h. ((acceptable_joined m good).0 h).0), (λ none. (acceptable_joined m good).1 (none, site_survives e)))

  pub site_verdict : site_of m ≡ None → OkayOrOver (verdict m)
  site_verdict e = go (verdict m) refl
    where
      go : (v : Verdict) → verdict m ≡ v → OkayOrOver v
      go (Over x l w) q = is_over x l w
      go (Split d) q = absurd (((split_exact m good d).0 q).1 (site_survives e).intact)
      go (Cut x d) q = let c = ((cut_exact m good x d).0 q).2 in absurd (c.holds ((site_survives e).each x c.below))
      go kind.Okay q = is_okay
