-- THE REFUSALS: reading refuses with the number n at the place p exactly if row n of the table applies there.
-- What the reader still does is a function of what is due, so each record that stands is one equation, and each refusal is traced back to its row.
use Prim.Native.Nat.{ℕ, zero, suc, ◌-◌}
use mathlib.Core.Path.{◌≡◌, refl, sym, ap, ◌∙◌, subst}
use mathlib.Core.List.{List, [], ◌∷◌, ◌++◌, map, reverse, reverse_aux}
use mathlib.Core.Bool.{Bool, true, false, cond, false≢true}
use native.Mathlib.Omega.{arith}
use lib.ListN.{length, take, drop, length-drop, length-append, take-append-drop}
use lib.Seq.{length-take-le}
use lib.Dec.{leb}
use borrow.Author.Tests.{leb-true, leb-false, le-leb, lt-leb}
use Rattle.book.specs.Reader.{Got, got, bad, Reader, and_then, need, each, fields, Mark, is_mark, opened}
use Rattle.book.specs.Book.{Span, Route, Ends, Lightpath, Alternative, RouteBook, some, below, counts_fit, span_ends, lightpath_ends, length_fits, route_walks, follows, lightpath_of, ends_of, well_formed}
use Rattle.book.specs.Format.{HD, ND, SP, LP, AL, EN, record_bytes, field, hd, nd, sp, from_high, from_stray, route, lp, al, at_end, encode, book, refused, placed, reading}
use Rattle.book.specs.Refusal.{Due, head, nodes, spans, lightpaths, alternatives, ending, past, Stands, at_head, after_head, after_node, after_nodes, after_span, after_spans, after_lightpath, after_lightpaths, after_alternative, after_alternatives, after_ending, Opens, opens_hd, opens_nd, opens_sp, opens_lp, opens_al, opens_en, RouteDue, in_lp, in_al, RouteThere, Row, row1_mark, row1_fields, row1_route, row2, row3, row4_node, row4_span, row4_lightpath, row5, row6, row7, row8, row9, row10, Fault}
use Rattle.book.proofs.Readers.{tab, Bytes, bytes_after, apart, fields_back, opened_back, opened_only, Right}
use Rattle.book.proofs.Records.{hd_back, hd_only, nd_right, sp_right, lp_right, al_right}
use Rattle.book.proofs.Format.{reading_back}
use Rattle.book.proofs.Stands.{spent}
use Rattle.book.proofs.Endings.{row_ending}
use Rattle.book.proofs.Strays.{high_split, high_fails, high_from, stray_split, stray_fails, stray_from}

-- what was got was not refused
never : {A P : Type 0} {a : A} {t : List ℕ} {n : ℕ} {p : List ℕ} → got a t ≡ bad n p → P
never e = absurd (apart (sym e))

-- a reading that is refused, taken apart
then_bad : {A B P : Type 0} (g : Got A) (k : A → List ℕ → Got B) {n : ℕ} {p : List ℕ} → and_then g k ≡ bad n p
    → (g ≡ bad n p → P) → ((a : A) (t : List ℕ) → g ≡ got a t → k a t ≡ bad n p → P) → P
then_bad (got a t) k e f go = go a t refl e
then_bad (bad m q) k {n} {p} e f go = f (cc)

-- an outcome without its value: what is due tells what is still tested, and not the book that is read
abbrev blind : {A : Type 0} → Got A → Got (Unit {0})
blind g = and_then g (λ a t. got tt t)

blind_bad : {A : Type 0} (g : Got A) {n : ℕ} {p : List ℕ} → blind g ≡ bad n p → g ≡ bad n p
blind_bad g e = then_bad g _ e (λ f. f) λ a t f. never

then_then : {A B C : Type 0} (g : Got A) (f : A → List ℕ → Got B) (k : B → List ℕ → Got C) → and_then (and_then g f) k ≡ and_then g (λ a t. and_then (f a t) k)
then_then (got a t) f k = refl
then_then (bad n p) f k = refl

-- m more records of a kind, and what is read after them all
abbrev loop : {A B : Type 0} → (List A → Reader A) → (List A → List ℕ → Got B) → ℕ → List A → List ℕ → Got B
loop r k zero before s = k (reverse before) s
loop r k (suc m) before s = and_then (r before s s) (λ a t. loop r k m (a ∷ before) t)

module _ {A B : Type 0} (r : List A → Reader A) (k : List A → List ℕ → Got B) (here : List ℕ) where
  each_from : (m : ℕ) (before : List A) (s : List ℕ) → and_then (each r m before here s) (λ l u. k (reverse_aux before l) u) ≡ loop r k m before s
  unfolding each
  each_from zero before s = refl
  each_from (suc m) before s = simp then_then (λ i. and_then (r before s s) (λ a t. each_from m (a ∷ before) t i))

  each_loop : (m : ℕ) (s : List ℕ) → and_then (each r m [] here s) k ≡ loop r k m [] s
  each_loop m s = each_from m [] s

-- what the reader still does where this is due, from the last that can be due to the first
abbrev past_on : List ℕ → Got (Unit {0})
past_on s = and_then (need (at_end s) 9 s s) (λ x t. got tt t)

abbrev ending_on : List ℕ → Got (Unit {0})
ending_on s = and_then (opened EN 0 s s) (λ v t. past_on t)

abbrev alternatives_on : List Span → List Ends → ℕ → List Alternative → List ℕ → Got (Unit {0})
alternatives_on sps es = loop (al sps es) (λ l t. ending_on t)

abbrev lightpaths_on : List ℕ → List Bool → List Span → ℕ → List Lightpath → List ℕ → Got (Unit {0})
lightpaths_on c ns sps = loop (λ before. lp ns sps) (λ l t. alternatives_on sps (map ends_of l) (field c 3) [] t)

abbrev spans_on : List ℕ → List Bool → ℕ → List Span → List ℕ → Got (Unit {0})
spans_on c ns = loop (λ before. sp (length ns)) (λ l t. lightpaths_on c ns l (field c 2) [] t)

abbrev nodes_on : List ℕ → ℕ → List Bool → List ℕ → Got (Unit {0})
nodes_on c = loop (λ before. nd) (λ l t. and_then (need (some l) 10 t t) (λ x u. spans_on c l (field c 1) [] u))

abbrev resume : Due → List ℕ → Got (Unit {0})
resume head s = and_then (hd s s) (λ c t. nodes_on c (field c 0) [] t)
resume (nodes c m ns) s = nodes_on c m ns s
resume (spans c ns m sps) s = spans_on c ns m sps s
resume (lightpaths c ns sps m lps) s = lightpaths_on c ns sps m lps s
resume (alternatives sps es m als) s = alternatives_on sps es m als s
resume ending s = ending_on s
resume past s = past_on s

book_resume : (b : List ℕ) → blind (book b b) ≡ resume head b
unfolding book
book_resume b = simp then_then (simp each_loop)

-- a record that stands is read
taken : {A B : Type 0} {ok : A → Bool} {enc : A → List ℕ} {r : Reader A} (right : Right ok enc r) {a : A} (s t : List ℕ) (k : A → List ℕ → Got B) → s ≡ enc a ++ t → ok a ≡ true
    → and_then (r s s) k ≡ k a t
taken {r = r} right {a} s t k p q = let e : r s s ≡ got a t = ap (r s) p ∙ right.back a s t q in rw e

opened_at : (m : Mark) (v here s t : List ℕ) → s ≡ record_bytes m v ++ t → opened m (length v) here s ≡ got v t
opened_at m v here s t p = ap (opened m (length v) here) p ∙ opened_back m (length v) v here t refl

-- the whole book is refused as what is left of it, wherever it stands
stood : {b s : List ℕ} {d : Due} → Stands b d s → blind (book b b) ≡ resume d s
stood {b} at_head = book_resume b
stood (after_head {s} {t} {n} {x} {p} {a} st e f) = let h : hd s s ≡ got (n ∷ x ∷ p ∷ a ∷ []) t = ap (hd s) e ∙ hd_back n x p a s t f in stood st ∙ rw h
stood (after_node {s} {t} st e) = stood st ∙ taken nd_right s t _ e refl
stood (after_nodes st e) = stood st ∙ rw e
stood (after_span {s} {t} {ns = ns} st e f) = stood st ∙ taken (sp_right (length ns)) s t _ e f
stood (after_spans st) = stood st
stood (after_lightpath {s} {t} {ns = ns} {sps} st e f) = stood st ∙ taken (lp_right ns sps) s t _ e f
stood (after_lightpaths st) = stood st
stood (after_alternative {s} {t} {sps} {es} {als = als} st e f) = stood st ∙ taken (al_right sps es als) s t _ e f
stood (after_alternatives st) = stood st
stood (after_ending {s} {t} st e) = stood st ∙ rw (opened_at EN [] s s t e)

-- the mark and the fixed fields, test by test
opened_is : (m : Mark) (k : ℕ) (here s : List ℕ) → opened m k here s ≡ cond (leb 2 (length s)) (cond (is_mark m s) (fields k here (drop 2 s)) (bad 2 here)) (bad 1 here)
unfolding opened
opened_is m k here [] = refl
opened_is m k here (x ∷ []) = refl
opened_is m k here (x ∷ y ∷ s) = rw (le-leb 2 (length (x ∷ y ∷ s)) (omega arith)) (go (is_mark m (x ∷ y ∷ [])))
  where
    go : (t : Bool) → and_then (need t 2 here s) (λ a u. fields k here u) ≡ cond t (fields k here s) (bad 2 here)
    go true = refl
    go false = refl

-- the due record is refused by its mark and fixed fields, and by its route
opens_bad : {d : Due} {m : Mark} {k : ℕ} (s : List ℕ) {n : ℕ} {p : List ℕ} → Opens d m k → opened m k s s ≡ bad n p → resume d s ≡ bad n p
opens_bad s opens_hd e = rw e
opens_bad s opens_nd e = rw e
opens_bad s opens_sp e = rw e
opens_bad s opens_lp e = rw e
opens_bad s opens_al e = rw e
opens_bad s opens_en e = rw e

route_bad : {d : Due} {s u : List ℕ} {sps : List Span} {e : Ends} {len n : ℕ} {p : List ℕ} → RouteDue d s sps e len u → route sps e len s u ≡ bad n p → resume d s ≡ bad n p
route_bad (in_lp {s = s} {u} {f = f} {t} {len} p q) e = rw (opened_at LP (f ∷ t ∷ len ∷ []) s s u p, q, e)
route_bad (in_al {s} {u} {l = l} {len} p q) e = rw (opened_at AL (l ∷ len ∷ []) s s u p, q, e)

-- each row, as the reader tests it
row_bad : {d : Due} {s q : List ℕ} {n : ℕ} → Row d s n q → resume d s ≡ bad n q
row_bad (row1_mark {m = m} {k} {s} o l) = opens_bad s o (opened_is m k s s ∙ rw (lt-leb 2 (length s) l))
row_bad (row1_fields {m = m} {k} {s} o l e f) = opens_bad s o (opened_is m k s s ∙ rw (le-leb 2 (length s) l, e, lt-leb k (length (drop 2 s)) (omega (arith, length-drop 2 s))))
row_bad (row1_route {s = s} {u} {len = len} r e l) = route_bad r (rw (e, lt-leb len (length u) l))
row_bad (row2 {m = m} {k} {s} o l e) = opens_bad s o (opened_is m k s s ∙ rw (le-leb 2 (length s) l, e))
row_bad (row3 {s} {t} {n} {x} {p} {a} e f) = rw (opened_at HD (n ∷ x ∷ p ∷ a ∷ []) s s t e, f)
row_bad (row4_node {s} {t} {x = x} e l) = rw (opened_at ND (x ∷ []) s s t e, lt-leb x 1 l)
row_bad (row4_span {s} {t} {l = l} {r} {w} e f) = rw (opened_at SP (l ∷ r ∷ w ∷ []) s s t e, f)
row_bad (row4_lightpath {s} {u} {f = f} {t} {len} e g) = rw (opened_at LP (f ∷ t ∷ len ∷ []) s s u e, g)
row_bad (row5 {s = s} {sps} before x after v o l h) =
    let r = before ++ x ∷ after in
    let n = length sps in
    route_bad o.is_due (rw (o.fits, fields_back (length r) r s v refl, high_fails n x after h before, high_from n x after h before l))
row_bad (row6 o e) = route_bad o (rw e)
row_bad (row7 {s = s} {sps} before x after v o l w) =
    let r = before ++ x ∷ after in
    route_bad o.is_due (rw (o.fits, fields_back (length r) r s v refl, l, stray_fails sps w, stray_from sps w))
row_bad (row8 {s} {u} {l = l} {len} e f) = rw (opened_at AL (l ∷ len ∷ []) s s u e, f)
row_bad row9 = refl
row_bad (row10 e) = rw e

-- a refusal is traced back to what the book stands up to, and to the row that applies there
abbrev Found : List ℕ → ℕ → List ℕ → Type 0
Found b n p = (d : Due) × (s : List ℕ) × Stands b d s × Row d s n p

module _ {b s : List ℕ} {d : Due} (st : Stands b d s) where
  -- one test: the row that applies where it fails, and what is tested next
  tested : {A B : Type 0} (t : Bool) (m : ℕ) (g : Got A) (k : A → List ℕ → Got B) {n : ℕ} {q p : List ℕ} → and_then (cond t g (bad m q)) k ≡ bad n p
      → (t ≡ false → Row d s m q) → (t ≡ true → and_then g k ≡ bad n p → Found b n p) → Found b n p
  tested true m g k e f go = go refl e
  tested false m g k {n} {q} {p} e f go =
      let l : m ≡ n = cc in
      let w : q ≡ p = cc in
      (d, s, st, subst (λ (i : ℕ). Row d s i p) l (subst (Row d s m) w (f refl)))

  opened_found : {B : Type 0} {m : Mark} {j : ℕ} (k : List ℕ → List ℕ → Got B) {n : ℕ} {p : List ℕ} → Opens d m j → and_then (opened m j s s) k ≡ bad n p
      → ((v u : List ℕ) → s ≡ record_bytes m (tab (field v) j) ++ u → k v u ≡ bad n p → Found b n p) → Found b n p
  opened_found {m = m} {j} k o e go =
      let u = drop 2 s in
      tested (leb 2 (length s)) 1 (cond (is_mark m s) (fields j s u) (bad 2 s)) k (rw (opened_is m j s s) at e) (λ l. row1_mark o (leb-false 2 (length s) l)) λ l e1.
      let two = leb-true 2 (length s) l in
      tested (is_mark m s) 2 (fields j s u) k e1 (λ f. row2 o two f) λ f e2.
      tested (leb j (length u)) 1 (got (take j u) (drop j u)) k e2 (λ g. row1_fields o two f (omega (arith, leb-false j (length u) g, length-drop 2 s))) λ g e3.
      go (take j u) (drop j u) (opened_only m j s s {v = take j u} {t = drop j u} (opened_is m j s s ∙ rw (l, f, g))).0 e3

  -- the rows of a route, at the span that the reader points at
  row_high : {sps : List Span} {e : Ends} {r v : List ℕ} → RouteThere d s sps e r v → below (length sps) r ≡ false → Row d s 5 (from_high (length sps) r ++ v)
  row_high {sps} {e} {r} {v} o h =
      let z = high_split (length sps) r h in
      subst (λ (q : List ℕ). Row d s 5 (q ++ v)) (sym z.from) (row5 z.before z.span z.after v (subst (λ (l : List ℕ). RouteThere d s sps e l v) z.is o) z.low z.high)

  row_stray : {sps : List Span} {e : Ends} (r : List ℕ) {v : List ℕ} → RouteThere d s sps e r v → below (length sps) r ≡ true → route_walks sps e r ≡ false
      → Row d s 7 (from_stray sps (e.from ∷ []) e.from r ++ v)
  unfolding length_fits
  row_stray [] o c h = absurd (false≢true o.fits)
  row_stray {sps} {e} (x ∷ xs) {v} o c h =
      let z = stray_split sps (e.from ∷ []) e.from e.to x xs h in
      subst (λ (q : List ℕ). Row d s 7 (q ++ v)) (sym z.from)
      (row7 z.before z.span z.after v (subst (λ (l : List ℕ). RouteThere d s sps e l v) z.is o) (subst (λ (l : List ℕ). below (length sps) l ≡ true) z.is c) z.stray)

  route_found : {sps : List Span} {e : Ends} (len : ℕ) (u : List ℕ) {n : ℕ} {p : List ℕ} → RouteDue d s sps e len u → route sps e len s u ≡ bad n p → Found b n p
  route_found {sps = sps} {e} len u o f =
      let r = take len u in
      let v = drop len u in
      tested (length_fits len) 6 (got tt u) _ f (row6 o) λ a f1.
      tested (leb len (length u)) 1 (got r v) _ f1 (λ l. row1_route o a (leb-false len (length u) l)) λ l f2.
      let w : length r ≡ len = length-take-le len u (leb-true len (length u) l) in
      let o2 : RouteThere d s sps e r v = record { is_due = rw (w, take-append-drop len u) o; fits = rw w a } in
      tested (below (length sps) r) 5 (got tt v) _ f2 (row_high o2) λ c f3.
      tested (route_walks sps e r) 7 (got tt v) _ f3 (row_stray r o2 c) λ g. never

  -- a record with a route, once its fixed fields are right
  routed : {A : Type 0} {sps : List Span} {e : Ends} (len : ℕ) (u : List ℕ) (f : Route → A) {n : ℕ} {p : List ℕ} → RouteDue d s sps e len u
      → and_then (route sps e len s u) (λ r t. got (f r) t) ≡ bad n p → Found b n p
  routed {sps = sps} {e} len u f o q = then_bad (route sps e len s u) _ q (route_found len u o) λ r t g. never

-- each kind of record
hd_found : {b s p : List ℕ} {n : ℕ} → Stands b head s → hd s s ≡ bad n p → Found b n p
hd_found st e =
    opened_found st _ opens_hd e λ v u q e1.
    tested st (counts_fit (field v 0) (field v 1) (field v 2) (field v 3)) 3 (got tt u) _ e1 (row3 q) λ f. never

nd_found : {b s p c : List ℕ} {n m : ℕ} {ns : List Bool} → Stands b (nodes c (suc m) ns) s → nd s s ≡ bad n p → Found b n p
nd_found st e =
    opened_found st _ opens_nd e λ v u q e1.
    tested st (leb (field v 0) 1) 4 (got tt u) _ e1 (λ f. row4_node q (leb-false (field v 0) 1 f)) λ f. never

sp_found : {b s p c : List ℕ} {n m : ℕ} {ns : List Bool} {sps : List Span} → Stands b (spans c ns (suc m) sps) s → sp (length ns) s s ≡ bad n p → Found b n p
sp_found {ns = ns} st e =
    opened_found st _ opens_sp e λ v u q e1.
    tested st (span_ends (length ns) (field v 0) (field v 1)) 4 (got tt u) _ e1 (row4_span q) λ f. never

lp_found : {b s p c : List ℕ} {n m : ℕ} {ns : List Bool} {sps : List Span} {lps : List Lightpath} → Stands b (lightpaths c ns sps (suc m) lps) s → lp ns sps s s ≡ bad n p → Found b n p
lp_found {ns = ns} st e =
    opened_found st _ opens_lp e λ v u q e1.
    tested st (lightpath_ends ns (record { from = field v 0; to = field v 1 })) 4 (got tt u) _ e1 (row4_lightpath q) λ f. routed st (field v 2) u _ (in_lp q f)

al_found : {b s p : List ℕ} {n m : ℕ} {sps : List Span} {es : List Ends} {als : List Alternative} → Stands b (alternatives sps es (suc m) als) s → al sps es als s s ≡ bad n p → Found b n p
al_found {es = es} {als = als} st e =
    opened_found st _ opens_al e λ v u q e1.
    tested st (follows (length es) (map lightpath_of als) (field v 0)) 8 (got tt u) _ e1 (row8 q) λ f. routed st (field v 1) u _ (in_al q f)

past_found : {b s p : List ℕ} {n : ℕ} → Stands b past s → past_on s ≡ bad n p → Found b n p
past_found {s = []} st e = never e
past_found {s = x ∷ s} st e = tested st {A = Unit {0}} false 9 (got tt []) (λ x t. got tt t) e (λ f. row9) λ f. never

-- the records of a kind, and what is read after them all
module _ {b p : List ℕ} {n : ℕ} {A : Type 0} {ok : List A → A → Bool} {enc : A → List ℕ} {r : List A → Reader A} (right : (before : List A) → Right (ok before) enc (r before))
    (due : ℕ → List A → Due)
    (next : (m : ℕ) (before : List A) (a : A) (s t : List ℕ) → Stands b (due (suc m) before) s → s ≡ enc a ++ t → ok before a ≡ true → Stands b (due m (a ∷ before)) t)
    (rows : (m : ℕ) (before : List A) (s : List ℕ) → Stands b (due (suc m) before) s → r before s s ≡ bad n p → Found b n p) where
  loop_found : {B : Type 0} (k : List A → List ℕ → Got B) (m : ℕ) (before : List A) (s : List ℕ) → Stands b (due m before) s → Bytes s → loop r k m before s ≡ bad n p
      → ((l : List A) (u : List ℕ) → Stands b (due 0 l) u → Bytes u → k (reverse l) u ≡ bad n p → Found b n p) → Found b n p
  loop_found k zero before s st h e go = go before s st h e
  loop_found k (suc m) before s st h e go =
      then_bad (r before s s) _ e (rows m before s st) λ a t f g.
      let o = (right before).only s s h f in
      loop_found k m (a ∷ before) t (next m before a s t st o.0 o.1) (bytes_after (enc a) t (subst Bytes o.0 h)) g go

book_found : (b : List ℕ) {n : ℕ} {p : List ℕ} → Bytes b → resume head b ≡ bad n p → Found b n p
book_found b h e =
    then_bad (hd b b) _ e (hd_found at_head) λ v r0 f0 e0.
    let o = hd_only b b f0 in
    let c : List ℕ = field v 0 ∷ field v 1 ∷ field v 2 ∷ field v 3 ∷ [] in
    loop_found (λ l. nd_right) (nodes c) (λ m l x s t st q f. after_node st q) (λ m l s. nd_found) (λ x x'. and_then {B = Unit {0}} (need (some x) 10 x' x') (λ x'' u. spans_on v x (field v 1) [] u)) (field v 0) [] r0 (after_head at_head o.0 o.1)
    (bytes_after (record_bytes HD c) r0 (subst Bytes o.0 h)) e0 λ l1 r1 st1 h1 e1.
    let ns = reverse l1 in
    tested st1 (some ns) 10 (got tt r1) (λ x. spans_on v (reverse {A = Bool} l1) (field v 1) []) e1 row10 λ f1 g1.
    loop_found (λ l. sp_right (length ns)) (spans c ns) (λ m l x s t. after_span) (λ m l s. sp_found) (λ x. lightpaths_on v (reverse {A = Bool} l1) x (field v 2) []) (field v 1) [] r1 (after_nodes st1 f1) h1 g1 λ l2 r2 st2 h2 e2.
    let sps = reverse l2 in
    loop_found (λ l. lp_right ns sps) (lightpaths c ns sps) (λ m l x s t. after_lightpath) (λ m l s. lp_found) (λ x. alternatives_on (reverse {A = Span} l2) (map ends_of x) (field v 3) []) (field v 2) [] r2 (after_spans st2) h2 e2 λ l3 r3 st3 h3 e3.
    let es = map ends_of (reverse l3) in
    loop_found (al_right sps es) (alternatives sps es) (λ m l x s t. after_alternative) (λ m l s. al_found) (λ x. ending_on) (field v 3) [] r3 (after_lightpaths st3) h3 e3 λ l4 r4 st4 h4 e4.
    let st5 = after_alternatives st4 in
    opened_found st5 _ opens_en e4 λ w r5 q. past_found (after_ending st5 q)

-- a fault is refused by its row, at its place
pub fault_refused : (b : List ℕ) (n p : ℕ) → Fault b n p → reading b ≡ refused n p
unfolding reading
fault_refused b n p f =
    let e : book b b ≡ bad n f.onward = blind_bad (book b b) (stood f.stands ∙ row_bad f.row) in
    rw e (ap (refused n) (omega (arith, f.place)))

-- and nothing else is refused
pub refused_fault : (b : List ℕ) (n p : ℕ) → Bytes b → reading b ≡ refused n p → Fault b n p
unfolding reading
refused_fault b n p h e = go (book b b) refl e
  where
    go : (g : Got RouteBook) → book b b ≡ g → placed b g ≡ refused n p → Fault b n p
    go (got m t) q f = let z : ◌≡◌ {A = ℕ} 0 1 = cc in absurd (omega arith)
    go (bad k s) q f =
        let z = book_found b h (sym (book_resume b) ∙ ap blind q) in
        let l : k ≡ n = cc in
        let w : length b - length s ≡ p = cc in
        let r = row_ending z.3 in
        record { due = z.0; rest = z.1; stands = z.2; onward = s; row = subst (λ (i : ℕ). Row z.0 z.1 i s) l z.3; place = omega (arith, spent z.2, ap length r.is, length-append r.front s) }

-- a book has at most one fault
pub fault_unique : (b : List ℕ) (n m p q : ℕ) → Fault b n p → Fault b m q → (n ≡ m) × (p ≡ q)
fault_unique b n m p q f g =
    let e = fault_refused b n p f in
    let h = fault_refused b m q g in
    (cc, cc)

-- and none where it is well formed
pub good_no_fault : (m : RouteBook) (n p : ℕ) → well_formed m ≡ true → Fault (encode m) n p → ⊥
good_no_fault m n p h f =
    let e = fault_refused (encode m) n p f in
    let g = reading_back m h in
    let z : ◌≡◌ {A = ℕ} 0 1 = cc in
    omega arith
