-- The loops over LP and AL records: what a book's arrays say of its spans and lightpaths, and what they hold after one more record.
-- Both different end with a route, whose row is the business of proofs/Rows.antt; what is left to read is that of proofs/Turns.antt.
use Prim.Native.Nat.{ℕ, ◌+◌, ◌*◌, ◌≤◌, ◌<◌}
use mathlib.Core.Path.{◌≡◌, refl, sym, ap, ◌∙◌, subst}
use mathlib.Core.List.{List, [], ◌∷◌, ◌++◌, map, map-append, append-nil, append_assoc, reverse, reverse-cons}
use mathlib.Core.Bool.{Bool, true}
use native.Mathlib.Omega.{arith}
use lib.ListN.{length, drop, set, replicate, length-map, length-append, length-reverse}
use lib.Seq.{paste}
use lib.Dec.{eqb}
use Rattle.book.specs.declared.Book.{Book}
use Rattle.book.specs.declared.place.Place.{Place}
use Rattle.book.specs.Reader.{each}
use Rattle.book.specs.Book.{Span, Lightpath, Alternative, every, lightpath_ends, lightpath_fits, length_fits, ends_of, lightpath_of}
use Rattle.book.specs.Format.{lp, al}
use Rattle.book.specs.Bits.{span_word}
use Rattle.book.specs.Memory.{padded, rows, routes_of, book_of, remade}
use Rattle.book.specs.declared.refusal.Refusal.{Refusal}
use Rattle.std.specs.Prelude.{Err}
use Rattle.book.specs.declared.record.Lightpath.{Lightpath as ReadLightpath}
use Rattle.book.specs.declared.record.Alternative.{Alternative as ReadAlternative}
use Rattle.book.specs.declared.record.Tally.{Tally}
use Rattle.book.specs.Inside.{LpCame, LpRead, lightpath_in, TallyOf, AlCame, AlRead, alternative_in, held_for, tally_with, partly, Reached, Halted, HoldsLightpaths, HoldsAll}
pub use Rattle.book.proofs.Routes.{column_at}
use Rattle.book.proofs.Tests.{and_inv}
use Rattle.book.proofs.Stands.{length_most}
use Rattle.book.proofs.Tallies.{tally_none, held_most, one_most, tally_more}
use Rattle.book.proofs.Padded.{padded_none, padded_long}
use Rattle.book.proofs.Rows.{RowsIn, rows_none, row_more}
use Rattle.book.proofs.Turns.{Turned, turned_start, turned_next, turned_stop, turned_done, column_more}

abbrev pub route_of : Lightpath → List ℕ
route_of p = p.route.spans

abbrev pub alt_route : Alternative → List ℕ
alt_route a = a.route.spans

-- one route more, behind those of the records before
routes_more : {A : Type 0} (f : A → List ℕ) (rs : List (List ℕ)) (before : List A) (a : A) → (rs ++ map f (reverse before)) ++ f a ∷ [] ≡ rs ++ map f (reverse (a ∷ before))
routes_more f rs before a = append_assoc rs (map f (reverse before)) (f a ∷ []) ∙ ap (λ (l : List (List ℕ)). rs ++ l) (sym (ap (map f) (reverse-cons a before) ∙ map-append f (reverse before) (a ∷ [])))

routes_long : {A : Type 0} (f : A → List ℕ) (rs : List (List ℕ)) (before : List A) → length (rs ++ map f (reverse before)) ≡ length rs + length before
routes_long f rs before = length-append rs (map f (reverse before)) ∙ ap (λ (n : ℕ). length rs + n) (length-map (reverse before) f ∙ length-reverse before)

-- the row of a record
module _ {A : Type 0} (f : A → List ℕ) (rs : List (List ℕ)) (before : List A) (a : A) {len route low high : List ℕ} (h : RowsIn (rs ++ map f (reverse before)) len route low high) where
  record_row : (k : ℕ) (r : List ℕ) → length rs + length before ≡ k → k < 152 → f a ≡ r → length r ≤ 16
      → RowsIn (rs ++ map f (reverse (a ∷ before))) (set len k (length r)) (paste route (16 * k) r (length r)) (set low k (span_word 0 r)) (set high k (span_word 1 r))
  record_row k r e few is short =
      subst (λ (x : List (List ℕ)). RowsIn x (set len k (length r)) (paste route (16 * k) r (length r)) (set low k (span_word 0 r)) (set high k (span_word 1 r))) (ap (λ (x : List ℕ). (rs ++ map f (reverse before)) ++ x ∷ []) (sym is) ∙ routes_more f rs before a)
      (row_more h k r (routes_long f rs before ∙ e) few short)

-- LP
module _ (b : Book) (s : List ℕ) (start m : ℕ) where
  pub record LightpathsTurned (k at : ℕ) (from to len route low high : List ℕ) : Type 0 where
    pub before : List Lightpath
    pub few : k ≤ m
    pub within : at ≤ length s
    pub counted : length before ≡ k
    pub turned : (ns : List Bool) (sps : List Span) → b ≡ book_of (partly ns sps [] []) → Turned (λ x. lp ns sps) s start m k at before
    pub is_from : from ≡ padded 96 (map (λ (p : Lightpath). p.ends.from) (reverse before))
    pub is_to : to ≡ padded 96 (map (λ (p : Lightpath). p.ends.to) (reverse before))
    pub in_rows : RowsIn ([] ++ map route_of (reverse before)) len route low high

  pub lightpaths_start : start ≤ length s → LightpathsTurned 0 start (replicate 96 0) (replicate 96 0) (replicate 152 0) (replicate 2432 0) (replicate 152 0) (replicate 152 0)
  lightpaths_start l = record {
    before = [];
    few = omega arith;
    within = l;
    counted = refl;
    turned = λ ns sps e. turned_start (λ x. lp ns sps) s start m l;
    is_from = sym (padded_none 96);
    is_to = sym (padded_none 96);
    in_rows = rows_none;
  }

  module _ {k at : ℕ} {from to len route low high : List ℕ} (now : LightpathsTurned k at from to len route low high) (l : k < m) where
    pub lightpaths_stop : {r : Refusal} → LpRead (Err r) s at b → (ns : List Bool) (sps : List Span) → b ≡ book_of (partly ns sps [] []) → Halted s (each (λ x. lp ns sps) m [] s (drop start s)) r
    lightpaths_stop h ns sps e = turned_stop (λ x. lp ns sps) s start m (now.turned ns sps e) l (h ns sps e)

    pub lightpaths_next : m ≤ 96 → {p : ReadLightpath} → LpCame p s at b → {next : ℕ} → at + 5 + length p.route.now ≡ next
        → LightpathsTurned (k + 1) next (set from k p.ends.from) (set to k p.ends.to) (set len k (length p.route.now))
        (paste route (16 * k) p.route.now (length p.route.now)) (set low k (span_word 0 p.route.now)) (set high k (span_word 1 p.route.now))
    lightpaths_next most {p} h {next} q =
        let x = lightpath_in p in
        let u : k < 96 = omega arith in
        record {
          before = x ∷ now.before;
          few = omega arith;
          within = omega (arith, h.within);
          counted = omega (arith, now.counted);
          turned = λ ns sps e. turned_next (λ x. lp ns sps) s start m (now.turned ns sps e) l (record { is = rw (← q) (h.told ns sps e); within = omega (arith, h.within) });
          is_from = column_more 96 (λ (x : Lightpath). x.ends.from) k now.before x from now.counted u now.is_from;
          is_to = column_more 96 (λ (x : Lightpath). x.ends.to) k now.before x to now.counted u now.is_to;
          in_rows = record_row route_of [] now.before x now.in_rows k p.route.now (omega (arith, now.counted)) (omega arith) refl h.short;
        }

  pub lightpaths_done : {k at : ℕ} {from to len route low high : List ℕ} → LightpathsTurned k at from to len route low high → m ≤ k → {p : Place} → p.s.now ≡ s → p.at ≡ at
      → (ns : List Bool) (sps : List Span) → b ≡ book_of (partly ns sps [] []) → Reached s (each (λ x. lp ns sps) m [] s (drop start s)) (HoldsLightpaths ns sps) (record { next = p; book = remade b.nodes b.spans m b.alternatives b.stations b.left b.right b.limit from to b.owner len route low high })
  lightpaths_done {k} {at} {from} {to} {len} {route} {low} {high} now h q r ns sps e =
      let c : m ≡ length (reverse now.before) = omega (arith, now.counted, now.few, length-reverse now.before) in
      let x : RowsIn (routes_of (reverse now.before) []) len route low high = subst (λ (l : List (List ℕ)). RowsIn l len route low high) (sym (append-nil (map route_of (reverse now.before)))) now.in_rows in
      record {
        value = reverse now.before;
        same = q;
        is = rw r (turned_done (λ x. lp ns sps) s start m (now.turned ns sps e) h);
        held = rw (e, now.is_from, now.is_to, x.is_len, x.is_route, x.is_low, x.is_high, ← c);
      }

-- the rows of routes that fit are full rows
pub routes_filled : (ns : List Bool) (sps : List Span) (before lps : List Lightpath) → every (λ x. lightpath_fits ns sps) before lps ≡ true → length (rows 16 (map route_of lps)) ≡ 16 * length lps
unfolding every rows
routes_filled ns sps before [] h = refl
routes_filled ns sps before (p ∷ lps) h =
    let a = and_inv {a = lightpath_fits ns sps p} h in
    let r = and_inv {a = lightpath_ends ns p.ends} a.0 in
    let l = length_most (length p.route.spans) (and_inv {a = length_fits (length p.route.spans)} r.1).0 in
    let ih = routes_filled ns sps (p ∷ before) lps a.1 in
    length-append (padded 16 p.route.spans) (rows 16 (map route_of lps)) ∙ omega (arith, padded_long 16 p.route.spans l, ih)

-- AL: the rows follow those of the lightpaths
module _ (b : Book) (s : List ℕ) (start m : ℕ) where
  pub record AlternativesTurned (k at : ℕ) (t : Tally) (owner len route low high : List ℕ) : Type 0 where
    pub before : List Alternative
    pub few : k ≤ m
    pub within : at ≤ length s
    pub counted : length before ≡ k
    pub same_few : t.same ≤ k
    pub many_few : t.different ≤ k
    pub tally : TallyOf (map lightpath_of before) t.last t.same t.different
    pub turned : (ns : List Bool) (sps : List Span) (lps : List Lightpath) → b ≡ book_of (partly ns sps lps []) → Turned (al sps (map ends_of lps)) s start m k at before
    pub is_owner : owner ≡ padded 56 (map lightpath_of (reverse before))
    pub in_rows : (ns : List Bool) (sps : List Span) (lps : List Lightpath) → b ≡ book_of (partly ns sps lps []) → every (λ x. lightpath_fits ns sps) [] lps ≡ true
        → RowsIn (routes_of lps (reverse before)) len route low high

  pub alternatives_start : start ≤ length s → AlternativesTurned 0 start (record { last = 0; same = 0; different = 0 }) (replicate 56 0) b.len b.route b.low b.high
  alternatives_start l = record {
    before = [];
    few = omega arith;
    within = l;
    counted = refl;
    same_few = omega arith;
    many_few = omega arith;
    tally = tally_none;
    turned = λ ns sps lps e. turned_start (al sps (map ends_of lps)) s start m l;
    is_owner = sym (padded_none 56);
    in_rows = λ ns sps lps e f.
        let n : map route_of lps ++ [] ≡ map route_of lps = append-nil (map route_of lps) in
        rw e (record {
          is_len = refl;
          is_route = refl;
          is_low = refl;
          is_high = refl;
          filled = rw n (routes_filled ns sps [] lps f ∙ ap (λ (x : ℕ). 16 * x) (sym (length-map lps route_of)));
        });
  }

  module _ {k at : ℕ} {t : Tally} {owner len route low high : List ℕ} (now : AlternativesTurned k at t owner len route low high) (l : k < m) where
    pub alternatives_stop : {r : Refusal} → AlRead (Err r) s at t b → (ns : List Bool) (sps : List Span) (lps : List Lightpath) → b ≡ book_of (partly ns sps lps []) → Halted s (each (al sps (map ends_of lps)) m [] s (drop start s)) r
    alternatives_stop h ns sps lps e = turned_stop (al sps (map ends_of lps)) s start m (now.turned ns sps lps e) l (h ns sps lps now.before e now.tally)

    pub alternatives_next : m ≤ 56 → b.lightpaths ≤ 96 → {a : ReadAlternative} → AlCame a s at t b → {next : ℕ} → at + 4 + length a.route.now ≡ next
        → AlternativesTurned (k + 1) next (tally_with t a.lightpath) (set owner k a.lightpath) (set len (b.lightpaths + k) (length a.route.now))
        (paste route (16 * (b.lightpaths + k)) a.route.now (length a.route.now)) (set low (b.lightpaths + k) (span_word 0 a.route.now)) (set high (b.lightpaths + k) (span_word 1 a.route.now))
    alternatives_next most paths {a} h {next} q =
        let x = alternative_in a in
        record {
          before = x ∷ now.before;
          few = omega arith;
          within = omega (arith, h.within);
          counted = omega (arith, now.counted);
          same_few = omega (arith, held_most t.last t.same a.lightpath, now.same_few);
          many_few = omega (arith, one_most (eqb (held_for t.last t.same a.lightpath) 0), now.many_few);
          tally = tally_more (map lightpath_of now.before) t.last t.same t.different now.tally a.lightpath h.risen;
          turned = λ ns sps lps e. turned_next (al sps (map ends_of lps)) s start m (now.turned ns sps lps e) l (record { is = rw (← q) (h.told ns sps lps now.before e now.tally); within = omega (arith, h.within) });
          is_owner = column_more 56 lightpath_of k now.before x owner now.counted (omega arith) now.is_owner;
          in_rows = λ ns sps lps e f.
              record_row alt_route (map route_of lps) now.before x (now.in_rows ns sps lps e f) (b.lightpaths + k) a.route.now
              (omega (arith, now.counted, length-map lps route_of, ap (λ (x : Book). x.lightpaths) e)) (omega arith) refl h.short;
        }

  pub alternatives_done : {k at : ℕ} {t : Tally} {owner len route low high : List ℕ} → AlternativesTurned k at t owner len route low high → m ≤ k → {p : Place} → p.s.now ≡ s → p.at ≡ at
      → (ns : List Bool) (sps : List Span) (lps : List Lightpath) → b ≡ book_of (partly ns sps lps []) → every (λ x. lightpath_fits ns sps) [] lps ≡ true
      → Reached s (each (al sps (map ends_of lps)) m [] s (drop start s)) (HoldsAll ns sps lps) (record { next = p; book = remade b.nodes b.spans b.lightpaths m b.stations b.left b.right b.limit b.from b.to owner len route low high })
  alternatives_done {k} {at} now h q r ns sps lps e f =
      let c : m ≡ length (reverse now.before) = omega (arith, now.counted, now.few, length-reverse now.before) in
      let x = now.in_rows ns sps lps e f in
      record {
        value = reverse now.before;
        same = q;
        is = rw r (turned_done (al sps (map ends_of lps)) s start m (now.turned ns sps lps e) h);
        held = rw (e, now.is_owner, x.is_len, x.is_route, x.is_low, x.is_high, ← c);
      }
