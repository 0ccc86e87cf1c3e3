-- A SITE DOWN: with a node closed the side that is computed holds just the stations left that are joined to the lowest of them, and it is all of them
-- exactly if any two are joined. So the answer names the lowest node at fault, and no other answer does; nothing is asked of the network with all nodes open.
use Prim.Native.Nat.{ℕ, ◌^◌, ◌<◌, ◌≤◌, zero-le}
use mathlib.Core.Path.{◌≡◌, sym, ap, ◌∙◌, subst}
use mathlib.Core.Logic.{◌⊎◌, inl, inr, ◌↔◌}
use mathlib.Core.Bool.{Bool, true, false, not, false≢true}
use native.Mathlib.Nat.{le_antisymm}
use native.Mathlib.Decide.{dec_lt, ℕ_discrete}
use native.Mathlib.Omega.{arith}
use lib.ListN.{length, get_or, set, length-set, get_or-eq_default}
use lib.Seq.{get_or-set_same, get_or-set_other}
use lib.Pow.{pow_pos}
use borrow.Author.Tests.{eqb-true, eq-eqb, ne_eqb, not-true, not-false}
use Rattle.book.specs.Book.{RouteBook, well_formed}
use Rattle.book.specs.Bits.{bit, has}
use Rattle.book.specs.Choice.{lightpath_at}
use Rattle.book.proofs.Bits.{bit_of_zero, has_true, true_has}
use Rattle.book.proofs.Stations.{stations_within, station_has}
use Rattle.book.proofs.Bounds.{counts, ends_stations, ends_lt}
use Rattle.book.proofs.NodesMet.{met_start, met_end}
use Rattle.judgement.specs.Network.{Joined, start, more}
use Rattle.judgement.specs.Judgement.{network, stations}
use Rattle.judgement.specs.Meaning.{Least}
use Rattle.judgement.specs.Sites.{down_at, spared, meets, stations_left, lowest_left, side_left, stands, site_of, IsOther, OthersJoined, IsDown, IsSide, SiteGiven, down, okay}
use Rattle.std.specs.Prelude.{Option, None}
use Rattle.judgement.specs.declared.Down.{Down}
use Rattle.judgement.proofs.Tests.{not_when, when_not_not}
use Rattle.judgement.proofs.Sets.{set_same, low_in, low_below, low_some}
use Rattle.judgement.proofs.Joins.{side_grown}
use Rattle.judgement.proofs.Chains.{join_trans, join_sym}
use Rattle.judgement.proofs.Whole.{joined_to}
use Rattle.judgement.proofs.Loads.{route-fits}
use Rattle.judgement.proofs.First.{First, there, nowhere, first, first_only}

-- the stations left are the others
module _ (m : RouteBook) (v : ℕ) where
  left_gone : has (stations_left m v) v ≡ false
  left_gone = station_has (set m.nodes v false) v ∙ go (dec_lt v (length m.nodes))
    where
      go : Dec (v < length m.nodes) → get_or (set m.nodes v false) v false ≡ false
      go (yes l) = get_or-set_same m.nodes v false false l
      go (no n) = get_or-eq_default (set m.nodes v false) false {n = v} (omega (arith, n, length-set m.nodes v false))

  left_kept : (i : ℕ) → (i ≡ v → ⊥) → has (stations_left m v) i ≡ has (stations m) i
  left_kept i n = station_has (set m.nodes v false) i ∙ get_or-set_other m.nodes v i false false n ∙ sym (station_has m.nodes i)

  pub left_is : (i : ℕ) → (has (stations_left m v) i ≡ true) ↔ IsOther m v i
  left_is i = elim (ℕ_discrete i v) [
    | yes e ↦ ((λ h. absurd (false≢true (sym (ap (has (stations_left m v)) e ∙ left_gone) ∙ h))), (λ o. absurd (o.1 e)))
    | no n ↦ ((λ h. (sym (left_kept i n) ∙ h, n)), (λ o. left_kept i n ∙ o.0))
  ]

module _ (m : RouteBook) (good : well_formed m ≡ true) (v : ℕ) where
  pub left_lt : stations_left m v < 2 ^ 64
  left_lt = stations_within 64 0 0 (set m.nodes v false) (omega (arith, length-set m.nodes v false, (counts m good).0)) (pow_pos 64)

  -- where there is one there is a lowest
  abbrev SomeLeft : Type 0
  SomeLeft = stations_left m v ≡ 0 → ⊥

  some_left : (i : ℕ) → IsOther m v i → SomeLeft
  some_left i o e = omega (arith, true_has (stations_left m v) i ((left_is m v i).1 o), ap (λ (w : ℕ). bit w i) e, bit_of_zero i)

  left_low : SomeLeft → lowest_left m v < 64
  left_low = low_some 64 (stations_left m v) left_lt

  lowest_other : SomeLeft → IsOther m v (lowest_left m v)
  lowest_other n = (left_is m v (lowest_left m v)).0 (has_true (stations_left m v) (lowest_left m v) (low_in 64 (stations_left m v) (left_low n)))

  -- the start of the side: one of the others, and none of them is lower
  pub lowest-left : (i : ℕ) → IsOther m v i → IsOther m v (lowest_left m v) × (lowest_left m v ≤ i)
  lowest-left i o = (
    lowest_other (some_left i o),
    elim (dec_lt i (lowest_left m v)) [
      | yes l ↦ absurd (omega (arith, low_below 64 (stations_left m v) i l, true_has (stations_left m v) i ((left_is m v i).1 o)))
      | no k ↦ omega (arith, k)
    ],
  )

  -- a lightpath that ends at the node meets it: what is up runs between others
  spared_ends : (k : ℕ) → k < length m.lightpaths → spared m v k ≡ true → IsOther m v ((network m).from k) × IsOther m v ((network m).to k)
  spared_ends k l u =
      let p = lightpath_at m.lightpaths k in
      let e = ends_stations m good k l in
      let out = not-true (meets m v k) u in
      ((e.0, λ q. false≢true (sym out ∙ met_at q (met_start m.spans p.ends.from p.route.spans))), (e.1, λ q. false≢true (sym out ∙ met_at q (met_end m.spans p.ends p.route (route-fits m good k l)))))
    where
      met_at : {i : ℕ} → i ≡ v → meets m i k ≡ true → meets m v k ≡ true
      met_at q = subst (λ (n : ℕ). meets m n k ≡ true) q

  joined_other : {s i : ℕ} → IsOther m v s → Joined (network m) (spared m v) s i → IsOther m v i
  joined_other o start = o
  joined_other {i = i} o (more j l) = go (spared_ends l.number l.below l.is_up) l.runs
    where
      k : ℕ
      k = l.number

      go : {x : ℕ} → IsOther m v ((network m).from k) × IsOther m v ((network m).to k)
          → (((network m).from k ≡ x) × ((network m).to k ≡ i)) ⊎ (((network m).to k ≡ x) × ((network m).from k ≡ i)) → IsOther m v i
      go e (inl p) = subst (IsOther m v) p.1 e.1
      go e (inr p) = subst (IsOther m v) p.1 e.0

  -- THE LAW of the side: it holds just the others that are joined to the lowest of them
  pub side_left_has : (i : ℕ) → (has (side_left m v) i ≡ true) ↔ (IsOther m v i × Joined (network m) (spared m v) (lowest_left m v) i)
  side_left_has i = go (ℕ_discrete (stations_left m v) 0)
    where
      go : Dec (stations_left m v ≡ 0) → (has (side_left m v) i ≡ true) ↔ (IsOther m v i × Joined (network m) (spared m v) (lowest_left m v) i)
      go (yes e) = rw (eq-eqb (stations_left m v) 0 e) ((λ h. absurd (omega (arith, true_has 0 i h, bit_of_zero i))), (λ q. absurd (some_left i q.0 e)))
      go (no n) =
          let j = joined_to m good (spared m v) (lowest_left m v) (left_low n) i in
          rw (ne_eqb (stations_left m v) 0 n) ((λ h. (joined_other (lowest_other n) (j.0 h), j.0 h)), (λ q. j.1 q.1))

  side_left_lt : side_left m v < 2 ^ 64
  side_left_lt = go (ℕ_discrete (stations_left m v) 0)
    where
      go : Dec (stations_left m v ≡ 0) → side_left m v < 2 ^ 64
      go (yes e) = rw (eq-eqb (stations_left m v) 0 e) (pow_pos 64)
      go (no n) = rw (ne_eqb (stations_left m v) 0 n) (side_grown (network m) (spared m v) 64 (ends_lt m good) (lowest_left m v) (left_low n)).0.low

  -- THE LAW of the others: they stand exactly if any two are joined
  pub stands_joined : (stands m v ≡ true) ↔ OthersJoined m v
  stands_joined = (to, from)
    where
      to : stands m v ≡ true → OthersJoined m v
      to e i j a b = join_trans (network m) (spared m v) (join_sym (network m) (spared m v) (at i a)) (at j b)
        where
          at : (i : ℕ) → IsOther m v i → Joined (network m) (spared m v) (lowest_left m v) i
          at i o = ((side_left_has i).0 (ap (λ (w : ℕ). has w i) (eqb-true (side_left m v) (stations_left m v) e) ∙ (left_is m v i).1 o)).1

      from : OthersJoined m v → stands m v ≡ true
      from all = eq-eqb (side_left m v) (stations_left m v) (set_same 64 (side_left m v) (stations_left m v) side_left_lt left_lt (λ i l. (
        (λ h. true_has (stations_left m v) i ((left_is m v i).1 ((side_left_has i).0 (has_true (side_left m v) i h)).0)),
        (λ h. let o = (left_is m v i).0 (has_true (stations_left m v) i h) in
            true_has (side_left m v) i ((side_left_has i).1 (o, all (lowest_left m v) i (lowest_other (some_left i o)) o))),
      )))

  -- where two of the others are not joined there is one, and so a side of the lowest; and there is one such side
  down_some : IsDown m v → SomeLeft
  down_some d e = d (λ i j a b. absurd (some_left i a e))

  side_is : SomeLeft → IsSide m v (side_left m v)
  side_is n = record {
    from = lowest_left m v;
    is_other = lowest_other n;
    lowest = λ i o. (lowest-left i o).1;
    low = side_left_lt;
    holds = λ i. ((λ h. ((side_left_has i).0 h).1), (λ j. (side_left_has i).1 (joined_other (lowest_other n) j, j)));
  }

  pub side_once : {d : ℕ} → IsSide m v d → d ≡ side_left m v
  side_once {d} s = set_same 64 d (side_left m v) s.low side_left_lt (λ i l. (
    (λ h. let j = subst (λ (n : ℕ). Joined (network m) (spared m v) n i) at ((s.holds i).0 (has_true d i h)) in true_has (side_left m v) i ((side_left_has i).1 (joined_other (lowest_other (some_left s.from s.is_other)) j, j))),
    (λ h. true_has d i ((s.holds i).1 (subst (λ (n : ℕ). Joined (network m) (spared m v) n i) (sym at) ((side_left_has i).0 (has_true (side_left m v) i h)).1))),
  ))
    where
      at : s.from ≡ lowest_left m v
      at = let w = lowest-left s.from s.is_other in le_antisymm (s.lowest (lowest_left m v) w.0) w.1

module _ (m : RouteBook) (good : well_formed m ≡ true) where
  abbrev test : ℕ → Bool
  test v = not (stands m v)

  abbrev answer : ℕ → Option Down
  answer v = down_at v (side_left m v)

  -- THE LAW: the answer means what its kind and numbers say
  pub site_given : SiteGiven m (site_of m)
  site_given = go (first test answer None (length m.nodes) 0)
    where
      go : {r : Option Down} → First test answer None (length m.nodes) 0 r → SiteGiven m r
      go (there v a b h low) =
          let is_down : IsDown m v = λ all. false≢true (sym (not-true (stands m v) h) ∙ (stands_joined m good v).1 all) in
          down v (side_left m v) (record {
            below = omega (arith, b);
            holds = is_down;
            before = λ y l c. c ((stands_joined m good y).0 (not-false (stands m y) (low y zero-le l)));
          }) (side_is m good v (down_some m good v is_down))
      go (nowhere h) = okay (λ v l. (stands_joined m good v).0 (not-false (stands m v) (h v zero-le (omega (arith, l)))))

  -- and no other answer means that
  pub site_only : {r : Option Down} → SiteGiven m r → r ≡ site_of m
  site_only (down v d c s) =
      ap (down_at v) (side_once m good v s)
      ∙ first_only test answer None (length m.nodes) 0
      (there v zero-le (omega (arith, c.below)) (ap not (not_when (stands m v) (stands_joined m good v).0 c.holds)) (λ y a l. ap not (when_not_not (stands m y) (stands_joined m good y).1 (c.before y l))))
  site_only (okay all) = first_only test answer None (length m.nodes) 0 (nowhere (λ v a l. ap not ((stands_joined m good v).1 (all v (omega (arith, l))))))

  pub site_once : {r r' : Option Down} → SiteGiven m r → SiteGiven m r' → r ≡ r'
  site_once g g' = site_only g ∙ sym (site_only g')

  -- each kind by itself, with its numbers
  pub down_exact : (v d : ℕ) → (site_of m ≡ down_at v d) ↔ (Least (IsDown m) (length m.nodes) v × IsSide m v d)
  down_exact v d = ((λ e. go (subst (SiteGiven m) e site_given)), (λ p. sym (site_only (down v d p.0 p.1))))
    where
      go : {v d : ℕ} → SiteGiven m (down_at v d) → Least (IsDown m) (length m.nodes) v × IsSide m v d
      go (down v d c s) = (c, s)

  pub site_okay : (site_of m ≡ None) ↔ ((v : ℕ) → v < length m.nodes → OthersJoined m v)
  site_okay = ((λ e. go (subst (SiteGiven m) e site_given)), (λ all. sym (site_only (okay all))))
    where
      go : SiteGiven m None → (v : ℕ) → v < length m.nodes → OthersJoined m v
      go (okay all) = all
