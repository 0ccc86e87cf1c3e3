-- The book that holds what was read, kind by kind: after each record the arrays hold one more, and after the last the book holds them all.
-- What is left to read is the business of proofs/Turns.antt; here stands what is in the arrays.
use Prim.Native.Nat.{ℕ, ◌+◌, ◌≤◌, ◌<◌}
use mathlib.Core.Path.{◌≡◌, refl, sym, ap, ◌∙◌, subst}
use mathlib.Core.List.{List, [], ◌∷◌, map, reverse, reverse-cons}
use mathlib.Core.Bool.{Bool}
use native.Mathlib.Omega.{arith}
use lib.ListN.{length, drop, set, replicate, length-reverse}
use Rattle.book.specs.declared.Book.{Book}
use Rattle.book.specs.declared.place.Place.{Place}
use Rattle.book.specs.Reader.{each}
use Rattle.book.specs.Book.{Span}
use Rattle.book.specs.Format.{nd, sp}
use Rattle.book.specs.Bits.{put_if, stations_into, station_set}
use Rattle.book.specs.Memory.{padded, book_of, empty_book, remade}
use Rattle.book.specs.declared.refusal.Refusal.{Refusal}
use Rattle.book.specs.Inside.{partly, Came, Reached, Halted, HoldsNodes, HoldsSpans}
use Rattle.book.proofs.Padded.{padded_none}
use Rattle.book.proofs.Stations.{stations_more}
use Rattle.book.proofs.Turns.{Turned, turned_start, turned_next, turned_stop, turned_done, column_more}

-- ND
module _ (s : List ℕ) (start m : ℕ) where
  pub record NodesTurned (k at stations : ℕ) : Type 0 where
    pub before : List Bool
    pub turned : Turned (λ x. nd) s start m k at before
    pub is_set : stations ≡ station_set (reverse before)

  pub nodes_start : start ≤ length s → NodesTurned 0 start 0
  unfolding stations_into
  nodes_start l = record { before = []; turned = turned_start (λ x. nd) s start m l; is_set = refl }

  module _ {k at stations : ℕ} (now : NodesTurned k at stations) (l : k < m) where
    pub nodes_next : {t : Bool} → Came s (nd (drop at s) (drop at s)) t (at + 3) → NodesTurned (k + 1) (at + 3) (put_if t stations k)
    nodes_next {t} h =
        let c : k ≡ 0 + length (reverse now.before) = omega (arith, now.turned.counted, length-reverse now.before) in
        record {
          before = t ∷ now.before;
          turned = turned_next (λ x. nd) s start m now.turned l h;
          is_set =
              ap (λ (x : ℕ). put_if t x k) now.is_set ∙ ap (put_if t (station_set (reverse now.before))) c
              ∙ sym (ap station_set (reverse-cons t now.before) ∙ stations_more 0 0 (reverse now.before) t);
        }

    pub nodes_stop : {r : Refusal} → Halted s (nd (drop at s) (drop at s)) r → Halted s (each (λ x. nd) m [] s (drop start s)) r
    nodes_stop = turned_stop (λ x. nd) s start m now.turned l

  pub nodes_done : {k at stations : ℕ} → NodesTurned k at stations → m ≤ k → {b : Book} → b ≡ book_of empty_book → {p : Place} → p.s.now ≡ s → p.at ≡ at
      → Reached s (each (λ x. nd) m [] s (drop start s)) HoldsNodes (record { next = p; book = remade m b.spans b.lightpaths b.alternatives stations b.left b.right b.limit b.from b.to b.owner b.len b.route b.low b.high })
  nodes_done {k} {at} now h e q r =
      let c : m ≡ length (reverse now.before) = omega (arith, now.turned.counted, now.turned.few, length-reverse now.before) in
      record {
        value = reverse now.before;
        same = q;
        is = rw r (turned_done (λ x. nd) s start m now.turned h);
        held = rw (e, now.is_set, ← c);
      }

-- SP
module _ (nodes : ℕ) (s : List ℕ) (start m : ℕ) where
  pub record SpansTurned (k at : ℕ) (left right limit : List ℕ) : Type 0 where
    pub before : List Span
    pub turned : Turned (λ x. sp nodes) s start m k at before
    pub is_left : left ≡ padded 128 (map (λ (x : Span). x.left) (reverse before))
    pub is_right : right ≡ padded 128 (map (λ (x : Span). x.right) (reverse before))
    pub is_limit : limit ≡ padded 128 (map (λ (x : Span). x.limit) (reverse before))

  pub spans_start : start ≤ length s → SpansTurned 0 start (replicate 128 0) (replicate 128 0) (replicate 128 0)
  spans_start l = record {
    before = [];
    turned = turned_start (λ x. sp nodes) s start m l;
    is_left = sym (padded_none 128);
    is_right = sym (padded_none 128);
    is_limit = sym (padded_none 128);
  }

  module _ {k at : ℕ} {left right limit : List ℕ} (now : SpansTurned k at left right limit) (l : k < m) where
    pub spans_next : {x : Span} → Came s (sp nodes (drop at s) (drop at s)) x (at + 5) → m ≤ 128 → SpansTurned (k + 1) (at + 5) (set left k x.left) (set right k x.right) (set limit k x.limit)
    spans_next {x} h few =
        let c = now.turned.counted in
        let u : k < 128 = omega arith in
        record {
          before = x ∷ now.before;
          turned = turned_next (λ y. sp nodes) s start m now.turned l h;
          is_left = column_more 128 (λ (x : Span). x.left) k now.before x left c u now.is_left;
          is_right = column_more 128 (λ (x : Span). x.right) k now.before x right c u now.is_right;
          is_limit = column_more 128 (λ (x : Span). x.limit) k now.before x limit c u now.is_limit;
        }

pub spans_stop : (s : List ℕ) (start m : ℕ) (b : Book) (ns : List Bool) → b ≡ book_of (partly ns [] [] []) → {k at : ℕ} {left right limit : List ℕ}
    → SpansTurned b.nodes s start m k at left right limit → k < m → {r : Refusal} → Halted s (sp b.nodes (drop at s) (drop at s)) r → Halted s (each (λ x. sp (length ns)) m [] s (drop start s)) r
spans_stop s start m b ns e now l {r} h =
    subst (λ (x : Book). Halted s (each (λ y. sp x.nodes) m [] s (drop start s)) r) e (turned_stop (λ x. sp b.nodes) s start m now.turned l h)

pub spans_done : (s : List ℕ) (start m : ℕ) (b : Book) (ns : List Bool) → b ≡ book_of (partly ns [] [] []) → {k at : ℕ} {left right limit : List ℕ}
    → SpansTurned b.nodes s start m k at left right limit → m ≤ k → {p : Place} → p.s.now ≡ s → p.at ≡ at
    → Reached s (each (λ x. sp (length ns)) m [] s (drop start s)) (HoldsSpans ns) (record { next = p; book = remade b.nodes m b.lightpaths b.alternatives b.stations left right limit b.from b.to b.owner b.len b.route b.low b.high })
spans_done s start m b ns e now h q r =
    let c : m ≡ length (reverse now.before) = omega (arith, now.turned.counted, now.turned.few, length-reverse now.before) in
    record {
      value = reverse now.before;
      same = q;
      is = rw r (ap (λ (x : Book). each (λ y. sp x.nodes) m [] s (drop start s)) (sym e) ∙ turned_done (λ x. sp b.nodes) s start m now.turned h);
      held = rw (e, now.is_left, now.is_right, now.is_limit, ← c);
    }
