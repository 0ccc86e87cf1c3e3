-- THE JUDGEMENT OVER PIECES, of the arrays: with the labels in place of the ends and of the stations, the struct's own judgement is that over the pieces,
-- once its sides are given in stations. The lowest of the stations' labels is the label of the lowest station.
use Prim.Native.Nat.{ℕ, zero, suc, ◌+◌, ◌-◌, ◌<◌}
use mathlib.Core.Path.{◌≡◌, refl, sym, ap, ap₂, ◌∙◌, subst}
use mathlib.Core.List.{List}
use mathlib.Core.Bool.{Bool, true, false, cond, not, ◌&&◌}
use native.Mathlib.Nat.{le_antisymm}
use native.Mathlib.Decide.{dec_lt}
use native.Mathlib.Omega.{arith}
use lib.Count.{count_trailing_zeros}
use lib.Dec.{eqb, ltb}
use lib.ListN.{length, get_or}
use borrow.Author.Tests.{lt-ltb, le-ltb}
use Rattle.book.specs.declared.Book.{Book}
use Rattle.book.specs.Book.{RouteBook, well_formed}
use Rattle.book.specs.Memory.{book_of}
use Rattle.book.specs.Bits.{has}
use Rattle.book.proofs.Bounds.{counts}
use Rattle.book.proofs.Tests.{and_both}
use Rattle.book.proofs.Walking.{below_all}
use Rattle.judgement.specs.Network.{Network, side_of}
use Rattle.judgement.specs.Judgement.{rides, network, load, limit, without, all_up, stations, lowest, first_of}
use Rattle.judgement.specs.Pieces.{over, labels, piece_side, piece_whole, in_stations, cut_over, split_over}
use Rattle.judgement.specs.Contraction.{pieces, merges_in, contracted, contraction_of}
use Rattle.judgement.specs.Arrays.{usable, load_in, limit_in, up_in, side_by, cut_or_okay_in, split_or_in}
use Rattle.judgement.specs.Holding.{Usable, is_over, over_in}
use Rattle.std.specs.Prelude.{Option, Some, None}
use Rattle.judgement.specs.Merge.{Table, Labelled, OverPieces, with_ends, in_stations_by, given_in}
use Rattle.judgement.specs.declared.Verdict.{Verdict}
use Rattle.judgement.specs.declared.Verdict.TheVariants.{Over, Split, Cut, Okay}
use Rattle.judgement.specs.declared.Contracted.{Contracted}
use Rattle.judgement.specs.declared.load.Overload.{Overload}
use Rattle.judgement.proofs.Alike.{side_alike}
use Rattle.judgement.proofs.First.{first_alike, first_map}
use Rattle.judgement.proofs.Sets.{low_in, low_below, low_lt}
use Rattle.judgement.proofs.Stations.{lowest_lt, lowest_has}
use Rattle.judgement.proofs.Usable.{by_the_ends}
use Rattle.judgement.proofs.Carried.{low_rides, high_rides}
use Rattle.judgement.proofs.Loads.{load-in}
use Rattle.judgement.proofs.Excess.{limit-in}
use Rattle.judgement.proofs.Labels.{labels_in, labels_of}
use Rattle.judgement.proofs.LabelArrays.{net_is, label_low}
use Rattle.judgement.proofs.Elements.{table_low}

-- a set of labels, by tests and labels that agree
labels_alike : (t t' : ℕ → Bool) (f g : ℕ → ℕ) (n : ℕ) → ((i : ℕ) → i < n → (t i ≡ t' i) × (f i ≡ g i)) → labels t f n ≡ labels t' g n
unfolding labels
labels_alike t t' f g zero h = refl
labels_alike t t' f g (suc n) h = let e = h n (omega arith) in rw (e.0, e.1, labels_alike t t' f g n (λ i l. h i (omega arith)))

-- a verdict given in stations, where it is one of two, and where it is the first of a search
given_cond : (st : ℕ) (label : List ℕ) (b : Bool) (v w : Verdict) → given_in st label (cond b v w) ≡ cond b (given_in st label v) (given_in st label w)
given_cond st label true v w = refl
given_cond st label false v w = refl

module _ (m : RouteBook) (fits : well_formed m ≡ true) (piece : ℕ → ℕ) {label : List ℕ} (now : Labelled m piece label) where
  abbrev all : ℕ
  all = labels (has (stations m)) piece 64

  lowest-label : count_trailing_zeros 64 all ≡ piece (lowest m)
  lowest-label =
      let here = labels_in (has (stations m)) piece 64 (lowest m) (lowest_lt m fits) (lowest_has m fits) in
      let low = now.falls (lowest m) in
      let l = low_lt 64 all (piece (lowest m)) (omega (arith, lowest_lt m fits)) here in
      let w = labels_of (has (stations m)) piece 64 (count_trailing_zeros 64 all) (low_in 64 all l) in
      le_antisymm
      (elim (dec_lt (piece (lowest m)) (count_trailing_zeros 64 all)) [
        | yes q ↦ absurd (omega (arith, here, low_below 64 all (piece (lowest m)) q))
        | no q ↦ omega arith
      ])
      (omega (arith, low, w.3, now.above w.0 w.2))

  -- a side given in stations
  stations_same : (d : ℕ) → in_stations_by (stations m) label d ≡ in_stations m piece d
  stations_same d =
      labels_alike (λ i. has (stations m) i && has d (get_or label i 0)) (λ i. has (stations m) i && has d (piece i)) (λ i. i) (λ i. i) 64
      (λ i l. (rw (now.same i l), refl))

  module _ {from to : List ℕ} (a : Table 96 (λ k. get_or label (get_or (book_of m).from k 0) 0) 96 from)
      (b : Table 96 (λ k. get_or label (get_or (book_of m).to k 0) 0) 96 to) where
    -- the struct of the book over its pieces
    abbrev overall : Book
    overall = with_ends (book_of m) from to all

    is_usable : usable overall ≡ true
    is_usable =
        let n = counts m fits in
        let low = label_low m fits piece now in
        sym (by_the_ends overall n.2 n.1 (omega (arith, lowest-label, now.falls (lowest m), lowest_lt m fits)))
        ∙ and_both (below_all 64 from (table_low a (λ k l. low _))) (below_all 64 to (table_low b (λ k l. low _)))

    side_over : (up up' : ℕ → Bool) → ((k : ℕ) → k < length m.lightpaths → up k ≡ up' k) → side_by overall up ≡ piece_side m piece up'
    side_over up up' same =
        ap₂ (λ (net : Network) (s : ℕ). side_of net up 64 s) (sym (net_is m fits piece now a b)) lowest-label
        ∙ side_alike (over (network m) piece) (over (network m) piece) up up'
        (record { count = refl; from = λ k l. refl; to = λ k l. refl; state = same }) 64 (piece (lowest m))

    up_is : (x k : ℕ) → x < 128 → k < length m.lightpaths → up_in overall x k ≡ without m x k
    up_is x k l q = go (dec_lt x 64)
      where
        go : Dec (x < 64) → up_in overall x k ≡ without m x k
        go (yes r) = rw (lt-ltb x 64 r) (ap not (low_rides m fits x k r q))
        go (no r) =
            let z : 64 + (x - 64) ≡ x = omega arith in
            rw (le-ltb x 64 (omega arith)) (ap not (high_rides m fits (x - 64) k (omega arith) q ∙ ap (λ (y : ℕ). rides m y k) z))

    side_out : (x : ℕ) → x < 128 → side_by overall (up_in overall x) ≡ piece_side m piece (without m x)
    side_out x l = side_over (up_in overall x) (without m x) (λ k q. up_is x k l q)

    side_all : side_by overall all_up ≡ piece_side m piece all_up
    side_all = side_over all_up all_up (λ k q. refl)

    cut_given : given_in (stations m) label (cut_or_okay_in overall) ≡ cut_over m piece
    cut_given =
        let t : ℕ → Bool = λ x. not (eqb (side_by overall (up_in overall x)) all) in
        first_map (given_in (stations m) label) t (λ x. Cut x (side_by overall (up_in overall x))) Okay (length m.spans) 0
        ∙ first_alike t (λ x. not (piece_whole m piece (without m x))) (λ x. Cut x (in_stations_by (stations m) label (side_by overall (up_in overall x))))
        (λ x. Cut x (in_stations m piece (piece_side m piece (without m x)))) Okay (length m.spans) 0
        (λ x p q.
        let e = side_out x (omega (arith, counts m fits)) in
        (ap (λ (d : ℕ). not (eqb d all)) e, ap (Cut x) (ap (in_stations_by (stations m) label) e ∙ stations_same (piece_side m piece (without m x)))))

    split_given : given_in (stations m) label (split_or_in overall) ≡ split_over m piece
    split_given =
        given_cond (stations m) label (eqb (side_by overall all_up) all) (cut_or_okay_in overall) (Split (side_by overall all_up))
        ∙ ap₂ (λ (v : Verdict) (d : ℕ). cond (eqb d all) v (Split (in_stations_by (stations m) label d))) cut_given side_all
        ∙ ap (λ (d : ℕ). cond (piece_whole m piece all_up) (cut_over m piece) (Split d)) (stations_same (piece_side m piece all_up))

  -- the struct that the code makes is that one
  module _ {b p : Book} (e : b ≡ book_of m) (o : OverPieces b label p) where
    from_is : Table 96 (λ k. get_or label (get_or (book_of m).from k 0) 0) 96 p.from
    from_is = subst (λ (x : Book). Table 96 (λ k. get_or label (get_or x.from k 0) 0) 96 p.from) e o.from

    to_is : Table 96 (λ k. get_or label (get_or (book_of m).to k 0) 0) 96 p.to
    to_is = subst (λ (x : Book). Table 96 (λ k. get_or label (get_or x.to k 0) 0) 96 p.to) e o.to

    made : p ≡ overall from_is to_is
    made =
        o.is
        ∙ ap (λ (s : ℕ). with_ends b p.from p.to s)
        (o.stations
        ∙ ap (λ (x : Book). labels (has x.stations) (λ i. get_or label i 0) 64) e
        ∙ labels_alike (has (stations m)) (has (stations m)) (λ i. get_or label i 0) piece 64 (λ i l. (refl, now.same i l)))
        ∙ ap (λ (x : Book). with_ends x p.from p.to all) e

    pub over_usable : Usable p
    over_usable = record { is = ap usable made ∙ is_usable from_is to_is }

    -- THE LAW
    pub over_given : given_in b.stations label (split_or_in p) ≡ split_over m piece
    over_given = ap₂ (λ (x y : Book). given_in x.stations label (split_or_in y)) e made ∙ split_given from_is to_is

-- two answers of one search
first_both : {A B C : Type 0} (g : A → B → C) (t : ℕ → Bool) (f : ℕ → A) (h : ℕ → B) (o : A) (u : B) (d k : ℕ)
    → g (first_of t f o d k) (first_of t h u d k) ≡ first_of t (λ x. g (f x) (h x)) (g o u) d k
unfolding first_of
first_both g t f h o u zero k = refl
first_both g t f h o u (suc d) k = go (t k) (first_both g t f h o u d (suc k))
  where
    go : (b : Bool) → g (first_of t f o d (suc k)) (first_of t h u d (suc k)) ≡ first_of t (λ x. g (f x) (h x)) (g o u) d (suc k)
        → g (cond b (f k) (first_of t f o d (suc k))) (cond b (h k) (first_of t h u d (suc k)))
        ≡ cond b (g (f k) (h k)) (first_of t (λ x. g (f x) (h x)) (g o u) d (suc k))
    go true ih = refl
    go false ih = ih

-- OVER at the span that was found, with no merge, or else this verdict and these merges
abbrev pub over_first : Verdict → ℕ → Option Overload → Contracted
over_first v n (Some o) = contracted (Over o.span o.load o.limit) 0
over_first v n None = contracted v n

-- THE LAW of the answer
pub contracted_is : (m : RouteBook) → well_formed m ≡ true → {b : Book} → b ≡ book_of m → {p : Option Overload}
    → p ≡ first_of (is_over b) (over_in b) None b.spans 0 → over_first (split_over m (pieces m)) (merges_in m 4096 (λ i. i)) p ≡ contraction_of m
contracted_is m fits {b} e {p} h =
    let v = split_over m (pieces m) in
    let n = merges_in m 4096 (λ i. i) in
    let held = book_of m in
    ap (over_first v n) (h ∙ ap (λ (y : Book). first_of (is_over y) (over_in y) None y.spans 0) e)
    ∙ first_map (over_first v n) (is_over held) (over_in held) None (length m.spans) 0
    ∙ first_alike (is_over held) (λ x. ltb (limit m x) (load m x))
    (λ x. contracted (Over x (load_in held x) (limit_in held x)) 0) (λ x. contracted (Over x (load m x) (limit m x)) 0) (contracted v n) (length m.spans) 0
    (λ x p q. (ap₂ ltb (limit-in m x) (load-in m fits x), ap₂ (λ (l w : ℕ). contracted (Over x l w) 0) (load-in m fits x) (limit-in m x)))
    ∙ sym (first_both contracted (λ x. ltb (limit m x) (load m x)) (λ x. Over x (load m x) (limit m x)) (λ x. 0) v n (length m.spans) 0)
