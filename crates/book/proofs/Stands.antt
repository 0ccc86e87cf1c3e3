-- How many bytes a book can stand for: every record has its own greatest width, and HD bounds how many of each kind there are.
-- So what has been read and what may still come, together, never pass 3,976 bytes.
use Prim.Native.Nat.{ℕ, ◌+◌, ◌*◌, ◌≤◌}
use mathlib.Core.Path.{◌≡◌, ap, ◌∙◌}
use mathlib.Core.List.{List, map}
use mathlib.Core.Bool.{Bool, true, ◌&&◌}
use native.Mathlib.Omega.{arith}
use lib.ListN.{length, length-append}
use lib.Dec.{leb}
use borrow.Author.Tests.{leb-true}
use Rattle.book.specs.Book.{Span, Route, Ends, Lightpath, Alternative, counts_fit, lightpath_ends, length_fits, route_fits, lightpath_fits, follows, lightpath_of, ends_at, alternative_fits}
use Rattle.book.specs.Format.{lp_bytes, al_bytes, field}
use Rattle.book.specs.Refusal.{Due, head, nodes, spans, lightpaths, alternatives, ending, past, Stands, at_head, after_head, after_node, after_nodes, after_span, after_spans, after_lightpath, after_lightpaths, after_alternative, after_alternatives, after_ending}
use Rattle.book.proofs.Tests.{and_inv}

-- the bounds that a test of HD or of a route leaves
pub counted : (n s p a : ℕ) → counts_fit n s p a ≡ true → (n ≤ 64) × (s ≤ 128) × (p ≤ 96) × (a ≤ 56)
counted n s p a h =
    let two = leb 1 n && leb n 64 in
    let three = two && leb s 128 in
    let h3 = and_inv {a = three && leb p 96} h in
    let h2 = and_inv {a = three} h3.0 in
    let h1 = and_inv {a = two} h2.0 in
    let h0 = and_inv {a = leb 1 n} h1.0 in
    (leb-true n 64 h0.1, leb-true s 128 h1.1, leb-true p 96 h2.1, leb-true a 56 h3.1)

pub length_most : (n : ℕ) → length_fits n ≡ true → n ≤ 16
unfolding length_fits
length_most n h = leb-true n 16 (and_inv {a = leb 1 n} h).1

route_width : (sps : List Span) (e : Ends) (r : Route) → route_fits sps e r ≡ true → length r.spans ≤ 16
route_width sps e r h = let n = length r.spans in length_most n (and_inv {a = length_fits n} h).0

-- the widest record with a route
pub lp_width : (ns : List Bool) (sps : List Span) (x : Lightpath) → lightpath_fits ns sps x ≡ true → length (lp_bytes x) ≤ 21
lp_width ns sps x h = omega (arith, route_width sps x.ends x.route (and_inv {a = lightpath_ends ns x.ends} h).1)

pub al_width : (sps : List Span) (es : List Ends) (before : List Alternative) (x : Alternative) → alternative_fits sps es before x ≡ true → length (al_bytes x) ≤ 20
al_width sps es before x h = omega (arith, route_width sps (ends_at es x.lightpath) x.route (and_inv {a = follows (length es) (map lightpath_of before) x.lightpath} h).1)

-- the most bytes that may still come
abbrev room : Due → ℕ
room head = 3976
room (nodes c m ns) = 3 * m + (5 * field c 1 + (21 * field c 2 + (20 * field c 3 + 2)))
room (spans c ns m sps) = 5 * m + (21 * field c 2 + (20 * field c 3 + 2))
room (lightpaths c ns sps m lps) = 21 * m + (20 * field c 3 + 2)
room (alternatives sps es m als) = 20 * m + 2
room ending = 2
room past = 0

-- a step of the book takes from its room what it takes from its bytes
pub spent : {b s : List ℕ} {d : Due} → Stands b d s → (length s ≤ length b) × (length b + room d ≤ 3976 + length s)
spent at_head = omega arith
spent (after_head {n = n} {x} {p} {a} st e f) = omega (arith, spent st, ap length e, counted n x p a f)
spent (after_node st e) = omega (arith, spent st, ap length e)
spent (after_nodes st f) = omega (arith, spent st)
spent (after_span st e f) = omega (arith, spent st, ap length e)
spent (after_spans st) = omega (arith, spent st)
spent (after_lightpath {t = t} {ns = ns} {sps} {x = x} st e f) = omega (arith, spent st, ap length e ∙ length-append (lp_bytes x) t, lp_width ns sps x f)
spent (after_lightpaths st) = omega (arith, spent st)
spent (after_alternative {t = t} {sps} {es} {als = als} {x} st e f) = omega (arith, spent st, ap length e ∙ length-append (al_bytes x) t, al_width sps es als x f)
spent (after_alternatives st) = omega (arith, spent st)
spent (after_ending st e) = omega (arith, spent st, ap length e)
