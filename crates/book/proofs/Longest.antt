-- THE LONGEST BOOK: a book that reads as good has at most 3,976 bytes, so a book of more than 4,096 has a fault within the first 4,096.
-- What stands in those bytes stands in the whole book, and at least 120 of them are left where the row applies, more than any record has.
use Prim.Native.Nat.{ℕ, zero, suc, ◌+◌, ◌*◌, ◌≤◌}
use mathlib.Core.Path.{◌≡◌, refl, sym, ap, ◌∙◌, subst}
use mathlib.Core.List.{List, [], ◌∷◌, ◌++◌, map, append_assoc}
use mathlib.Core.Bool.{Bool, true, false}
use native.Mathlib.Omega.{arith}
use native.Mathlib.Nat.{mul-suc}
use lib.ListN.{length, get_or, take, drop, length-append, take-append-drop, get_or-append}
use lib.Seq.{take_all, length-take-le}
use lib.Dec.{leb, ltb}
use borrow.Author.Tests.{leb-true, leb-false}
use Rattle.book.specs.Reader.{Mark, is_mark}
use Rattle.book.specs.Book.{Span, Ends, Lightpath, Alternative, RouteBook, below, every, ends_of, well_formed}
use Rattle.book.specs.Format.{bytes_of, nd_bytes, sp_bytes, lp_bytes, al_bytes, encode, Reading, good, refused, reading}
use Rattle.book.specs.Memory.{routes_of}
use Rattle.book.specs.Refusal.{Due, Stands, at_head, after_head, after_node, after_nodes, after_span, after_spans, after_lightpath, after_lightpaths, after_alternative, after_alternatives, after_ending, Opens, opens_hd, opens_nd, opens_sp, opens_lp, opens_al, opens_en, RouteDue, in_lp, in_al, RouteThere, Row, row1_mark, row1_fields, row1_route, row2, row3, row4_node, row4_span, row4_lightpath, row5, row6, row7, row8, row9, row10}
use Rattle.book.proofs.Tests.{and_inv, and_both}
use Rattle.book.proofs.Parts.{parts}
use Rattle.book.proofs.Readers.{Bytes}
use Rattle.book.proofs.Format.{every_true, reading_only}
use Rattle.book.proofs.Stands.{counted, length_most, lp_width, al_width, spent}
use Rattle.book.proofs.Refusals.{fault_refused, refused_fault}

-- records of at most w bytes each
module _ {A : Type 0} {ok : List A → A → Bool} (enc : A → List ℕ) (w : ℕ) (width : (before : List A) (a : A) → ok before a ≡ true → length (enc a) ≤ w) where
  pub widths : (before l : List A) → every ok before l ≡ true → length (bytes_of enc l) ≤ w * length l
  unfolding every bytes_of
  widths before [] h = omega arith
  widths before (a ∷ l) h =
      let z = and_inv {a = ok before a} h in
      omega (arith, width before a z.0, widths (a ∷ before) l z.1, length-append (enc a) (bytes_of enc l), mul-suc w (length l))

-- routes of at most 16 spans each, of the records of a kind, and of a whole book
module _ {A : Type 0} {ok : List A → A → Bool} (f : A → List ℕ) (short : (before : List A) (a : A) → ok before a ≡ true → length (f a) ≤ 16) where
  all_short : (before l : List A) → every ok before l ≡ true → (i : ℕ) → length (get_or (map f l) i []) ≤ 16
  unfolding every
  all_short before [] h i = omega arith
  all_short before (a ∷ l) h zero = short before a (and_inv {a = ok before a} h).0
  all_short before (a ∷ l) h (suc i) = all_short (a ∷ before) l (and_inv {a = ok before a} h).1 i

both_short : (xs ys : List (List ℕ)) → ((i : ℕ) → length (get_or xs i []) ≤ 16) → ((i : ℕ) → length (get_or ys i []) ≤ 16) → (i : ℕ) → length (get_or (xs ++ ys) i []) ≤ 16
both_short [] ys p q i = q i
both_short (x ∷ xs) ys p q zero = p 0
both_short (x ∷ xs) ys p q (suc i) = both_short xs ys (λ j. p (suc j)) q i

pub routes_short : (m : RouteBook) → well_formed m ≡ true → (i : ℕ) → length (get_or (routes_of m.lightpaths m.alternatives) i []) ≤ 16
routes_short m h =
    let ns = m.nodes in
    let sps = m.spans in
    let es = map ends_of m.lightpaths in
    let p = parts m h in
    both_short (map (λ (x : Lightpath). x.route.spans) m.lightpaths) (map (λ (x : Alternative). x.route.spans) m.alternatives)
    (all_short (λ (x : Lightpath). x.route.spans) (λ before x q. omega (arith, lp_width ns sps x q)) [] m.lightpaths p.lightpaths)
    (all_short (λ (x : Alternative). x.route.spans) (λ before x q. omega (arith, al_width sps es before x q)) [] m.alternatives p.alternatives)

-- the longest encoding
pub longest : (m : RouteBook) → well_formed m ≡ true → length (encode m) ≤ 3976
unfolding encode
longest m h =
    let ns = m.nodes in
    let sps = m.spans in
    let lps = m.lightpaths in
    let als = m.alternatives in
    let p = parts m h in
    simp length-append (omega (
      arith,
      counted (length ns) (length sps) (length lps) (length als) p.counts,
      widths nd_bytes 3 (λ before n q. omega arith) [] ns (every_true [] ns),
      widths sp_bytes 5 (λ before x q. omega arith) [] sps p.spans,
      widths lp_bytes 21 (λ before. lp_width ns sps) [] lps p.lightpaths,
      widths al_bytes 20 (al_width sps (map ends_of lps)) [] als p.alternatives,
    ))

pub good_short : (b : List ℕ) (m : RouteBook) → Bytes b → reading b ≡ good m → length b ≤ 3976
good_short b m h e = let o = reading_only b m h e in subst (λ (s : List ℕ). length s ≤ 3976) o.0 (longest m o.1)

bytes_before : (s t : List ℕ) → Bytes (s ++ t) → Bytes s
unfolding below
bytes_before [] t h = refl
bytes_before (x ∷ s) t h = let z = and_inv {a = ltb x 256} h in and_both z.0 (bytes_before s t z.1)

-- a record that is cut is near the end: its fixed fields are few, and its route begins within 5 bytes
opens_few : {d : Due} {m : Mark} {k : ℕ} → Opens d m k → k ≤ 4
opens_few opens_hd = omega arith
opens_few opens_nd = omega arith
opens_few opens_sp = omega arith
opens_few opens_lp = omega arith
opens_few opens_al = omega arith
opens_few opens_en = omega arith

route_near : {d : Due} {s u : List ℕ} {sps : List Span} {e : Ends} {len : ℕ} → RouteDue d s sps e len u → length s ≤ 5 + length u
route_near (in_lp p f) = omega (arith, ap length p)
route_near (in_al p f) = omega (arith, ap length p)

-- a book with the bytes x behind it
module _ (x : List ℕ) where
  abbrev more : List ℕ → List ℕ
  more s = s ++ x

  longer_stands : {b s : List ℕ} {d : Due} → Stands b d s → Stands (b ++ x) d (s ++ x)
  longer_stands at_head = at_head
  longer_stands (after_head st p f) = after_head (longer_stands st) (ap more p) f
  longer_stands (after_node st p) = after_node (longer_stands st) (ap more p)
  longer_stands (after_nodes st f) = after_nodes (longer_stands st) f
  longer_stands (after_span st p f) = after_span (longer_stands st) (ap more p) f
  longer_stands (after_spans st) = after_spans (longer_stands st)
  longer_stands (after_lightpath {t = t} {x = y} st p f) = after_lightpath (longer_stands st) (ap more p ∙ append_assoc (lp_bytes y) t x) f
  longer_stands (after_lightpaths st) = after_lightpaths (longer_stands st)
  longer_stands (after_alternative {t = t} {x = y} st p f) = after_alternative (longer_stands st) (ap more p ∙ append_assoc (al_bytes y) t x) f
  longer_stands (after_alternatives st) = after_alternatives (longer_stands st)
  longer_stands (after_ending st p) = after_ending (longer_stands st) (ap more p)

  longer_route : {d : Due} {s u : List ℕ} {sps : List Span} {e : Ends} {len : ℕ} → RouteDue d s sps e len u → RouteDue d (s ++ x) sps e len (u ++ x)
  longer_route (in_lp p f) = in_lp (ap more p) f
  longer_route (in_al p f) = in_al (ap more p) f

  longer_there : {d : Due} {s r v : List ℕ} {sps : List Span} {e : Ends} → RouteThere d s sps e r v → RouteThere d (s ++ x) sps e r (v ++ x)
  longer_there {d} {s} {r} {v} {sps} {e} o = record { is_due = subst (RouteDue d (s ++ x) sps e (length r)) (append_assoc r v x) (longer_route o.is_due); fits = o.fits }

  -- so where 21 bytes are left, no record is cut, and the row is one that more bytes do not change
  longer_row : {d : Due} {s q : List ℕ} {n : ℕ} → 21 ≤ length s → Row d s n q → Row d (s ++ x) n (q ++ x)
  longer_row l (row1_mark o h) = absurd (omega arith)
  longer_row l (row1_fields o g e h) = absurd (omega (arith, opens_few o))
  longer_row l (row1_route {len = len} o f h) = absurd (omega (arith, route_near o, length_most len f))
  longer_row l (row2 {m = m} {s = s} o h f) =
      let e : is_mark m (s ++ x) ≡ is_mark m s = rw (get_or-append s x 0 0 (omega arith), get_or-append s x 0 1 (omega arith)) in
      let g : 2 ≤ length (s ++ x) = omega (arith, length-append s x) in
      row2 o g (e ∙ f)
  longer_row l (row3 p f) = row3 (ap more p) f
  longer_row l (row4_node p f) = row4_node (ap more p) f
  longer_row l (row4_span p f) = row4_span (ap more p) f
  longer_row l (row4_lightpath p f) = row4_lightpath (ap more p) f
  longer_row l (row5 {d} {s} before y after v o f g) = subst (λ (q : List ℕ). Row d (s ++ x) 5 (y ∷ q)) (sym (append_assoc after v x)) (row5 before y after (v ++ x) (longer_there o) f g)
  longer_row l (row6 o f) = row6 (longer_route o) f
  longer_row l (row7 {d} {s} before y after v o f g) = subst (λ (q : List ℕ). Row d (s ++ x) 7 (y ∷ q)) (sym (append_assoc after v x)) (row7 before y after (v ++ x) (longer_there o) f g)
  longer_row l (row8 p f) = row8 (ap more p) f
  longer_row l row9 = row9
  longer_row l (row10 f) = row10 f

-- bytes enough for the longest book and one more record are all that reading looks at
enough : (c x : List ℕ) → Bytes c → 3976 + 21 ≤ length c → reading c ≡ reading (c ++ x)
enough c x h l = go (reading c) refl
  where
    go : (a : Reading) → reading c ≡ a → reading c ≡ reading (c ++ x)
    go (good m) e = absurd (omega (arith, good_short c m h e))
    go (refused n p) e =
        let f = refused_fault c n p h e in
        let s = f.rest in
        let l2 : 21 ≤ length s = omega (arith, spent f.stands) in
        let q : p + length (f.onward ++ x) ≡ length (c ++ x) = omega (arith, f.place, length-append f.onward x, length-append c x) in
        e ∙ sym (fault_refused (c ++ x) n p (record { due = f.due; rest = s ++ x; stands = longer_stands x f.stands; onward = f.onward ++ x; row = longer_row x l2 f.row; place = q }))

-- the first 4,096 bytes of a book, however long it is, read as the whole book does
pub kept : (b : List ℕ) → Bytes b → reading (take 4096 b) ≡ reading b
kept b h = go (leb (length b) 4096) refl
  where
    go : (t : Bool) → leb (length b) 4096 ≡ t → reading (take 4096 b) ≡ reading b
    go true l = ap reading (take_all 4096 b (leb-true (length b) 4096 l))
    go false l =
        let c = take 4096 b in
        let x = drop 4096 b in
        let e = take-append-drop 4096 b in
        let w = length-take-le 4096 b (omega (arith, leb-false (length b) 4096 l)) in
        enough c x (bytes_before c x (subst Bytes (sym e) h)) (omega arith) ∙ ap reading e
