-- THE BAD SPAN: what 5 and 7 point at, told in the words of a planner, with the bytes of the book from the place on.
-- Every other number still points at the first byte of what is due.
use Prim.Native.Nat.{ℕ, ◌+◌, ◌≤◌}
use mathlib.Core.Path.{◌≡◌, refl, sym, ap, ◌∙◌}
use mathlib.Core.List.{List, [], ◌∷◌, ◌++◌}
use mathlib.Core.Bool.{true}
use native.Mathlib.Omega.{arith}
use lib.ListN.{length, drop, length-drop, length-append}
use lib.Seq.{drop_at}
use Rattle.book.specs.Book.{Span, Ends, below}
use Rattle.book.specs.Format.{refused, reading}
use Rattle.book.specs.Refusal.{Due, Stands, RouteThere, Stray, Row, row1_mark, row1_fields, row1_route, row2, row3, row4_node, row4_span, row4_lightpath, row5, row6, row7, row8, row9, row10, Fault}
use Rattle.book.proofs.Readers.{Bytes}
use Rattle.book.proofs.Endings.{more, stands_ending, row_ending}
use Rattle.book.proofs.Refusals.{fault_refused, refused_fault}

-- the bytes from the place of a fault on are those that its row names
pub place_there : (b : List ℕ) (n p : ℕ) (f : Fault b n p) → drop p b ≡ f.onward
place_there b n p f =
    let e = row_ending f.row in
    let g = more e.front (stands_ending f.stands) e.is in
    ap (drop p) g.is ∙ drop_at g.front f.onward p (omega (arith, f.place, ap length g.is, length-append g.front f.onward))

-- a route is due and is there, and one of its spans is at the place p
pub record RouteSpan (b : List ℕ) (p : ℕ) : Type 0 where
  pub due : Due
  pub rest : List ℕ
  pub stands : Stands b due rest
  pub spans : List Span
  pub ends : Ends
  pub before : List ℕ
  pub span : ℕ
  pub after : List ℕ
  pub behind : List ℕ
  pub there : RouteThere due rest spans ends (before ++ span ∷ after) behind
  pub place : drop p b ≡ span ∷ (after ++ behind)

-- the spans before the place are below the count, and the one at the place is not
pub record HighSpan (b : List ℕ) (p : ℕ) : Type 0 where
  pub at : RouteSpan b p
  pub low : below (length at.spans) at.before ≡ true
  pub high : length at.spans ≤ at.span

-- the spans are all below the count; those before the place walk, and the one at the place is the first that has no end at the present node or
-- leads to a node already met; or it is the last, and the walk of all of them ends elsewhere
pub record StraySpan (b : List ℕ) (p : ℕ) : Type 0 where
  pub at : RouteSpan b p
  pub low : below (length at.spans) (at.before ++ at.span ∷ at.after) ≡ true
  pub stray : Stray at.spans (at.ends.from ∷ []) at.ends.from at.ends.to at.before at.span at.after

-- reading refuses with 5 exactly so
pub five_points : (b : List ℕ) (p : ℕ) → Bytes b → reading b ≡ refused 5 p → HighSpan b p
five_points b p h e = let f = refused_fault b 5 p h e in go f.stands f.row (place_there b 5 p f)
  where
    go : {d : Due} {s q : List ℕ} → Stands b d s → Row d s 5 q → drop p b ≡ q → HighSpan b p
    go {d} {s} st (row5 {sps = sps} {e} before x after v o l g) w = record {
      at = record { due = d; rest = s; stands = st; spans = sps; ends = e; before = before; span = x; after = after; behind = v; there = o; place = w };
      low = l;
      high = g;
    }

-- and with 7 exactly so
pub seven_points : (b : List ℕ) (p : ℕ) → Bytes b → reading b ≡ refused 7 p → StraySpan b p
seven_points b p h e = let f = refused_fault b 7 p h e in go f.stands f.row (place_there b 7 p f)
  where
    go : {d : Due} {s q : List ℕ} → Stands b d s → Row d s 7 q → drop p b ≡ q → StraySpan b p
    go {d} {s} st (row7 {sps = sps} {e} before x after v o l g) w = record {
      at = record { due = d; rest = s; stands = st; spans = sps; ends = e; before = before; span = x; after = after; behind = v; there = o; place = w };
      low = l;
      stray = g;
    }

at_fault : (b : List ℕ) (n p : ℕ) (a : RouteSpan b p) → Row a.due a.rest n (a.span ∷ (a.after ++ a.behind)) → reading b ≡ refused n p
at_fault b n p a r =
    let z : p + length (a.span ∷ (a.after ++ a.behind)) ≡ length b = omega (arith, ap length a.place, length-drop p b) in
    fault_refused b n p (record { due = a.due; rest = a.rest; stands = a.stands; onward = a.span ∷ (a.after ++ a.behind); row = r; place = z })

pub high_five : (b : List ℕ) (p : ℕ) → HighSpan b p → reading b ≡ refused 5 p
high_five b p h = let a = h.at in at_fault b 5 p a (row5 a.before a.span a.after a.behind a.there h.low h.high)

pub stray_seven : (b : List ℕ) (p : ℕ) → StraySpan b p → reading b ≡ refused 7 p
stray_seven b p h = let a = h.at in at_fault b 7 p a (row7 a.before a.span a.after a.behind a.there h.low h.stray)

-- every other number is placed where the record begins that is due, or what is due after the last record
row_first : {d : Due} {s q : List ℕ} {n : ℕ} → (n ≡ 5 → ⊥) → (n ≡ 7 → ⊥) → Row d s n q → s ≡ q
row_first f g (row1_mark o l) = refl
row_first f g (row1_fields o l m k) = refl
row_first f g (row1_route r h l) = refl
row_first f g (row2 o l m) = refl
row_first f g (row3 e h) = refl
row_first f g (row4_node e l) = refl
row_first f g (row4_span e h) = refl
row_first f g (row4_lightpath e h) = refl
row_first f g (row5 before x after v o l h) = absurd (f refl)
row_first f g (row6 r h) = refl
row_first f g (row7 before x after v o l w) = absurd (g refl)
row_first f g (row8 e h) = refl
row_first f g row9 = refl
row_first f g (row10 e) = refl

pub record_place : (b : List ℕ) (n p : ℕ) → (n ≡ 5 → ⊥) → (n ≡ 7 → ⊥) → (f : Fault b n p) → drop p b ≡ f.rest
record_place b n p five seven f = place_there b n p f ∙ sym (row_first five seven f.row)
