-- What is known of a book of which some kinds of records are read: they fit, as their reader says, so what the next kind relies on, ends and counts
-- within bounds, holds of the arrays.
use Prim.Native.Nat.{ℕ, zero, suc, ◌≤◌, ◌<◌}
use mathlib.Core.Path.{◌≡◌, refl, sym, ◌∙◌, subst}
use mathlib.Core.List.{List, [], ◌∷◌, map}
use mathlib.Core.Bool.{Bool, true, false, ◌&&◌, false≢true}
use native.Mathlib.Decide.{dec_lt}
use native.Mathlib.Omega.{arith}
use lib.ListN.{length, get_or, take, drop, take-append-drop, get_or-eq_default}
use lib.Dec.{ltb}
use borrow.Author.Tests.{ltb-true, lt-ltb}
use Rattle.book.specs.declared.Book.{Book}
use Rattle.book.specs.declared.fill.Filled.{Filled}
use Rattle.book.specs.Reader.{each}
use Rattle.book.specs.Book.{Span, Lightpath, some, below, every, span_ends, span_fits, lightpath_ends, lightpath_fits}
use Rattle.book.specs.Format.{nd, sp, lp}
use Rattle.book.specs.Bits.{has, stations_into, station_set}
use Rattle.book.specs.Memory.{padded, book_of}
use Rattle.book.specs.Inside.{Reached, HoldsNodes, HoldsSpans, HoldsLightpaths, SpansHeld, LightpathsHeld, partly}
use Rattle.book.proofs.Tests.{and_inv, and_both}
use Rattle.book.proofs.Readers.{Bytes, bytes_after, each_only}
use Rattle.book.proofs.Records.{nd_right, sp_right, lp_right}
use Rattle.book.proofs.Bits.{bit_of_zero}
use Rattle.book.proofs.Stations.{station_has, ends_both}
use Rattle.book.proofs.Lightpaths.{column_at}

-- a book of which the nodes are read; the spans too; the lightpaths too
pub record NodesRead (b : Book) : Type 0 where
  pub ns : List Bool
  pub is : b ≡ book_of (partly ns [] [] [])
  pub few : length ns ≤ 64

pub record SpansRead (b : Book) : Type 0 where
  pub ns : List Bool
  pub sps : List Span
  pub is : b ≡ book_of (partly ns sps [] [])
  pub nodes_few : length ns ≤ 64
  pub spans_few : length sps ≤ 128
  pub fit : every (λ before. span_fits (length ns)) [] sps ≡ true

pub record LightpathsRead (b : Book) : Type 0 where
  pub ns : List Bool
  pub sps : List Span
  pub lps : List Lightpath
  pub is : b ≡ book_of (partly ns sps lps [])
  pub nodes_few : length ns ≤ 64
  pub spans_few : length sps ≤ 128
  pub lightpaths_few : length lps ≤ 96
  pub spans_fit : every (λ before. span_fits (length ns)) [] sps ≡ true
  pub fit : every (λ before. lightpath_fits ns sps) [] lps ≡ true

-- bytes
pub bytes_drop : (n : ℕ) (s : List ℕ) → Bytes s → Bytes (drop n s)
bytes_drop n s h = bytes_after (take n s) (drop n s) (subst Bytes (sym (take-append-drop n s)) h)

pub all_bytes : (s : List ℕ) → ((i : ℕ) → get_or s i 0 < 256) → Bytes s
unfolding below
all_bytes [] h = refl
all_bytes (x ∷ s) h = and_both (lt-ltb x 256 (h 0)) (all_bytes s (λ i. h (suc i)))

-- one of a list whose every member passes a test
pub every_at : {A : Type 0} (q : A → Bool) (d : A) (before l : List A) → every (λ b. q) before l ≡ true → (j : ℕ) → j < length l → q (get_or l j d) ≡ true
unfolding every
every_at q d before [] h j l = absurd (omega arith)
every_at q d before (a ∷ r) h zero l = (and_inv {a = q a} h).0
every_at q d before (a ∷ r) h (suc j) l = every_at q d (a ∷ before) r (and_inv {a = q a} h).1 j (omega arith)

-- a column whose entries are below n where the test passes
column_low : {A : Type 0} (w n : ℕ) (f : A → ℕ) (q : A → Bool) (d : A) (xs : List A) → f d ≡ 0 → 0 < n → ((a : A) → q a ≡ true → f a < n) → every (λ b. q) [] xs ≡ true
    → (k : ℕ) → get_or (padded w (map f xs)) k 0 < n
column_low w n f q d xs z pos low h k = rw (column_at w f xs d z k) (go (dec_lt k (length xs)))
  where
    go : Dec (k < length xs) → f (get_or xs k d) < n
    go (yes l) = low (get_or xs k d) (every_at q d [] xs h k l)
    go (no l) = rw (get_or-eq_default xs d {n = k} (omega arith), z) pos

pub station_low : (ns : List Bool) (i : ℕ) → get_or ns i false ≡ true → i < length ns
station_low [] i h = absurd (false≢true h)
station_low (n ∷ ns) zero h = omega arith
station_low (n ∷ ns) (suc i) h = omega (arith, station_low ns i h)

span_low : (n : ℕ) (x : Span) → span_fits n x ≡ true → (x.left < n) × (x.right < n)
unfolding span_ends
span_low n x h =
    let a = and_inv {a = span_ends n x.left x.right} h in
    let b = and_inv {a = ltb x.left n && ltb x.right n} a.0 in
    let c = and_inv {a = ltb x.left n} b.0 in
    (ltb-true x.left n c.0, ltb-true x.right n c.1)

path_low : (ns : List Bool) (sps : List Span) (p : Lightpath) → lightpath_fits ns sps p ≡ true → (p.ends.from < length ns) × (p.ends.to < length ns)
path_low ns sps p h =
    let c = ends_both ns p.ends (and_inv {a = lightpath_ends ns p.ends} h).0 in
    (station_low ns p.ends.from c.0, station_low ns p.ends.to c.1)

-- what the code relies on
held : (ns : List Bool) (sps : List Span) (lps : List Lightpath) {b : Book} → b ≡ book_of (partly ns sps lps []) → length ns ≤ 64 → length sps ≤ 128
    → every (λ b. span_fits (length ns)) [] sps ≡ true → SpansHeld b
held ns sps lps e nodes few h =
    rw e (record {
      nodes_few = nodes;
      spans_few = few;
      left_low = column_low 128 64 (λ (x : Span). x.left) (span_fits (length ns)) (record { left = 0; right = 0; limit = 0 }) sps refl (omega arith) (λ x f. omega (arith, (span_low (length ns) x f).0)) h;
      right_low = column_low 128 64 (λ (x : Span). x.right) (span_fits (length ns)) (record { left = 0; right = 0; limit = 0 }) sps refl (omega arith) (λ x f. omega (arith, (span_low (length ns) x f).1)) h;
    })

pub spans_held : {b : Book} → SpansRead b → SpansHeld b
spans_held r = held r.ns r.sps [] r.is r.nodes_few r.spans_few r.fit

-- what stands past the end of a list of lightpaths
abbrev nowhere : Lightpath
nowhere = record { ends = record { from = 0; to = 0 }; route = record { spans = [] } }

pub lightpaths_held : {b : Book} → LightpathsRead b → LightpathsHeld b
lightpaths_held r = record {
  spans = held r.ns r.sps r.lps r.is r.nodes_few r.spans_few r.spans_fit;
  lightpaths_few = rw r.is r.lightpaths_few;
  from_low = rw r.is (column_low 96 64 (λ (p : Lightpath). p.ends.from) (lightpath_fits r.ns r.sps) nowhere r.lps refl (omega arith) (λ p f. omega (arith, (path_low r.ns r.sps p f).0, r.nodes_few)) r.fit);
  to_low = rw r.is (column_low 96 64 (λ (p : Lightpath). p.ends.to) (lightpath_fits r.ns r.sps) nowhere r.lps refl (omega arith) (λ p f. omega (arith, (path_low r.ns r.sps p f).1, r.nodes_few)) r.fit);
}

-- what was read, kind by kind
module _ (s : List ℕ) (bytes : Bytes s) (start m : ℕ) where
  abbrev pub nodes_read : {f : Filled} → m ≤ 64 → Reached s (each (λ x. nd) m [] s (drop start s)) HoldsNodes f → NodesRead f.book
  nodes_read few r =
      let o = each_only (λ x. nd_right) m [] s (drop start s) (bytes_drop start s bytes) r.is in
      record { ns = r.value; is = r.held; few = omega (arith, o.1) }

  abbrev pub spans_read : {b : Book} {f : Filled} (n : NodesRead b) → m ≤ 128 → Reached s (each (λ x. sp (length n.ns)) m [] s (drop start s)) (HoldsSpans n.ns) f → SpansRead f.book
  spans_read n few r =
      let o = each_only (λ x. sp_right (length n.ns)) m [] s (drop start s) (bytes_drop start s bytes) r.is in
      record { ns = n.ns; sps = r.value; is = r.held; nodes_few = n.few; spans_few = omega (arith, o.1); fit = o.2 }

  abbrev pub lightpaths_read : {b : Book} {f : Filled} (n : SpansRead b) → m ≤ 96
      → Reached s (each (λ x. lp n.ns n.sps) m [] s (drop start s)) (HoldsLightpaths n.ns n.sps) f → LightpathsRead f.book
  lightpaths_read n few r =
      let o = each_only (λ x. lp_right n.ns n.sps) m [] s (drop start s) (bytes_drop start s bytes) r.is in
      record { ns = n.ns; sps = n.sps; lps = r.value; is = r.held; nodes_few = n.nodes_few; spans_few = n.spans_few; lightpaths_few = omega (arith, o.1); spans_fit = n.fit; fit = o.2 }

-- the set of stations is empty exactly if no node is a station
pub found : (ns : List Bool) → some ns ≡ true → (i : ℕ) × (get_or ns i false ≡ true)
unfolding some
found [] h = absurd (false≢true h)
found (true ∷ ns) h = (0, refl)
found (false ∷ ns) h = let z = found ns h in (suc z.0, z.1)

none : (ns : List Bool) (x k : ℕ) → some ns ≡ false → stations_into x k ns ≡ x
unfolding some stations_into
none [] x k h = refl
none (true ∷ ns) x k h = absurd (false≢true (sym h))
none (false ∷ ns) x k h = none ns x (suc k) h

pub no_station : (ns : List Bool) → station_set ns ≡ 0 → some ns ≡ false
unfolding has
no_station ns e = go (some ns) refl
  where
    go : (t : Bool) → some ns ≡ t → some ns ≡ false
    go true h = let z = found ns h in absurd (false≢true (sym (sym (station_has ns z.0) ∙ rw (e, bit_of_zero z.0)) ∙ z.1))
    go false h = h

pub some_station : (ns : List Bool) → (station_set ns ≡ 0 → ⊥) → some ns ≡ true
some_station ns n = go (some ns) refl
  where
    go : (t : Bool) → some ns ≡ t → some ns ≡ true
    go true h = h
    go false h = absurd (n (none ns 0 0 h))
