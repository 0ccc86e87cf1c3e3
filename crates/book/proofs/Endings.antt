-- A book that stands up to some bytes ends with them, and the record that is due ends with the bytes from the place of its row on.
-- So a place is where those bytes begin.
use Prim.Native.Nat.{ℕ}
use mathlib.Core.Path.{◌≡◌, refl, sym, ap, ◌∙◌}
use mathlib.Core.List.{List, [], ◌∷◌, ◌++◌, append_assoc}
use Rattle.book.specs.Book.{Span, Ends}
use Rattle.book.specs.Format.{LP, AL, record_bytes, hd_bytes, nd_bytes, sp_bytes, lp_bytes, al_bytes, en_bytes}
use Rattle.book.specs.Refusal.{Due, Stands, at_head, after_head, after_node, after_nodes, after_span, after_spans, after_lightpath, after_lightpaths, after_alternative, after_alternatives, after_ending, RouteDue, in_lp, in_al, RouteThere, Row, row1_mark, row1_fields, row1_route, row2, row3, row4_node, row4_span, row4_lightpath, row5, row6, row7, row8, row9, row10}

-- b ends with s
pub record Ending (b s : List ℕ) : Type 0 where
  pub front : List ℕ
  pub is : b ≡ front ++ s

pub more : {b s t : List ℕ} (x : List ℕ) → Ending b s → s ≡ x ++ t → Ending b t
more {b} {s} {t} x e p = record { front = e.front ++ x; is = e.is ∙ ap (λ (l : List ℕ). e.front ++ l) p ∙ sym (append_assoc e.front x t) }

pub stands_ending : {b s : List ℕ} {d : Due} → Stands b d s → Ending b s
stands_ending at_head = record { front = []; is = refl }
stands_ending (after_head {n = n} {x} {p} {a} st e f) = more (hd_bytes n x p a) (stands_ending st) e
stands_ending (after_node {x = x} st e) = more (nd_bytes x) (stands_ending st) e
stands_ending (after_nodes st f) = stands_ending st
stands_ending (after_span {x = x} st e f) = more (sp_bytes x) (stands_ending st) e
stands_ending (after_spans st) = stands_ending st
stands_ending (after_lightpath {x = x} st e f) = more (lp_bytes x) (stands_ending st) e
stands_ending (after_lightpaths st) = stands_ending st
stands_ending (after_alternative {x = x} st e f) = more (al_bytes x) (stands_ending st) e
stands_ending (after_alternatives st) = stands_ending st
stands_ending (after_ending st e) = more en_bytes (stands_ending st) e

route_ending : {d : Due} {s u : List ℕ} {sps : List Span} {e : Ends} {len : ℕ} → RouteDue d s sps e len u → Ending s u
route_ending (in_lp {f = f} {t} {len} p h) = record { front = record_bytes LP (f ∷ t ∷ len ∷ []); is = p }
route_ending (in_al {l = l} {len} p h) = record { front = record_bytes AL (l ∷ len ∷ []); is = p }

-- the bytes from a span of a route on
span_ending : {d : Due} {s : List ℕ} {sps : List Span} {e : Ends} (before : List ℕ) (x : ℕ) (after v : List ℕ) → RouteThere d s sps e (before ++ x ∷ after) v → Ending s (x ∷ (after ++ v))
span_ending before x after v o = more before (route_ending o.is_due) (append_assoc before (x ∷ after) v)

same : (s : List ℕ) → Ending s s
same s = record { front = []; is = refl }

pub row_ending : {d : Due} {s q : List ℕ} {n : ℕ} → Row d s n q → Ending s q
row_ending (row1_mark {s = s} o l) = same s
row_ending (row1_fields {s = s} o l m k) = same s
row_ending (row1_route {s = s} r f l) = same s
row_ending (row2 {s = s} o l m) = same s
row_ending (row3 {s} e f) = same s
row_ending (row4_node {s} e l) = same s
row_ending (row4_span {s} e f) = same s
row_ending (row4_lightpath {s} e f) = same s
row_ending (row5 before x after v o l h) = span_ending before x after v o
row_ending (row6 {s = s} r f) = same s
row_ending (row7 before x after v o l w) = span_ending before x after v o
row_ending (row8 {s} e f) = same s
row_ending (row9 {x} {s}) = same (x ∷ s)
row_ending (row10 {s = s} e) = same s
