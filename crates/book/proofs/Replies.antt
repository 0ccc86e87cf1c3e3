-- A reading from kind to kind: what is still to be read after each of them, and the answer that is made of a refusal or of the whole.
-- A refusal's bytes are the book from its place on, so the place is what stands before them.
use Prim.Native.Nat.{ℕ, ◌-◌}
use mathlib.Core.Path.{◌≡◌, sym, ap, ◌∙◌}
use mathlib.Core.List.{List, [], map}
use mathlib.Core.Bool.{Bool, true, false}
use native.Mathlib.Omega.{arith}
use lib.ListN.{length, drop, length-drop}
use Rattle.std.specs.Prelude.{Ok, Err}
use Rattle.book.specs.declared.Book.{Book}
use Rattle.book.specs.declared.counts.Counts.{Counts}
use Rattle.book.specs.declared.fill.Filled.{Filled}
use Rattle.book.specs.declared.refusal.Fault.TheVariants.{NoStation}
use Rattle.book.specs.declared.refusal.Refusal.{Refusal}
use Rattle.book.specs.Reader.{Reader, ◌>>=◌, ◌>>◌, begun, need, each}
use Rattle.book.specs.Book.{Span, Lightpath, RouteBook, some, ends_of, every, lightpath_fits}
use Rattle.book.specs.Format.{hd, nd, sp, lp, al, book, reading}
use Rattle.book.specs.Memory.{book_of, shown}
use Rattle.book.specs.Inside.{Came, Halted, EndRead, Reached, Told, counts_of, HoldsNodes, HoldsSpans, HoldsLightpaths, HoldsAll, partly, from_end}
use Rattle.book.proofs.Faults.{fault_back}
use Rattle.book.proofs.Steps.{halted_then}
use Rattle.book.proofs.Readers.{Bytes}
use Rattle.book.proofs.Stages.{NodesRead, SpansRead, LightpathsRead, nodes_read, spans_read, lightpaths_read, no_station, some_station}

-- what is still to be read of a book, after each kind of record
pub data Part : Type 0 where
  at_nodes : (n x p a : ℕ) → Part
  at_spans : (x p a : ℕ) → List Bool → Part
  at_lightpaths : (p a : ℕ) → List Bool → List Span → Part
  at_alternatives : (a : ℕ) → List Bool → List Span → List Lightpath → Part
  at_end : RouteBook → Part

-- its reader, which is that of `book`, cut there
abbrev from_alternatives : ℕ → List Bool → List Span → List Lightpath → Reader RouteBook
from_alternatives a ns sps lps = do
  als ← each (al sps (map ends_of lps)) a []
  from_end (partly ns sps lps als)

abbrev from_lightpaths : ℕ → ℕ → List Bool → List Span → Reader RouteBook
from_lightpaths p a ns sps = do
  lps ← each (λ before. lp ns sps) p []
  from_alternatives a ns sps lps

abbrev from_spans : ℕ → ℕ → ℕ → List Bool → Reader RouteBook
from_spans x p a ns = do
  sps ← each (λ before. sp (length ns)) x []
  from_lightpaths p a ns sps

abbrev from_nodes : ℕ → ℕ → ℕ → ℕ → Reader RouteBook
from_nodes n x p a = do
  ns ← each (λ before. nd) n []
  begun (need (some ns) 10)
  from_spans x p a ns

abbrev pub from : Part → Reader RouteBook
from (at_nodes n x p a) = from_nodes n x p a
from (at_spans x p a ns) = from_spans x p a ns
from (at_lightpaths p a ns sps) = from_lightpaths p a ns sps
from (at_alternatives a ns sps lps) = from_alternatives a ns sps lps
from (at_end m) = from_end m

module _ (s : List ℕ) where
  -- what is left of the whole book is q, from `at` on
  pub record Left (q : Part) (at : ℕ) : Type 0 where
    pub is : book s s ≡ from q s (drop at s)

  -- a refusal of what is left is one of the whole
  stopped : {q : Part} {at : ℕ} → Left q at → {r : Refusal} → Halted s (from q s (drop at s)) r → Err r ≡ shown (reading s)
  unfolding reading
  stopped l {r} h =
      let z : length s - length (drop r.place s) ≡ r.place = omega (arith, length-drop r.place s, h.within) in
      rw (l.is, h.is, z, fault_back r.fault)

  module _ (k : Counts) where
    -- after the ND records, the SP records and the LP records: what the book holds, and what is left
    pub record NodesOn (f : Filled) : Type 0 where
      pub read : NodesRead f.book
      pub same : f.next.s.now ≡ s
      pub left : Left (at_spans k.spans k.lightpaths k.alternatives read.ns) f.next.at

    pub record SpansOn (f : Filled) : Type 0 where
      pub read : SpansRead f.book
      pub same : f.next.s.now ≡ s
      pub left : Left (at_lightpaths k.lightpaths k.alternatives read.ns read.sps) f.next.at

    pub record LightpathsOn (f : Filled) : Type 0 where
      pub read : LightpathsRead f.book
      pub same : f.next.s.now ≡ s
      pub left : Left (at_alternatives k.alternatives read.ns read.sps read.lps) f.next.at

  pub head_stop : {r : Refusal} → Halted s (hd s s) r → Err r ≡ shown (reading s)
  unfolding reading book
  head_stop {r} h =
      let z : length s - length (drop r.place s) ≡ r.place = omega (arith, length-drop r.place s, h.within) in
      rw (h.is, z, fault_back r.fault)

  module _ (bytes : Bytes s) (k : Counts) where
    module _ (h : Came s (hd s s) (counts_of k) 6) where
      headed : Left (at_nodes k.nodes k.spans k.lightpaths k.alternatives) 6
      unfolding book
      headed = record { is = rw h.is }

      pub nodes_stop : {r : Refusal} → Halted s (each (λ y. nd) k.nodes [] s (drop 6 s)) r → Err r ≡ shown (reading s)
      nodes_stop n = stopped headed (halted_then _ n)

      module _ {f : Filled} (n : Reached s (each (λ y. nd) k.nodes [] s (drop 6 s)) HoldsNodes f) where
        pub nodes_none : f.book.stations ≡ 0 → Err (record { fault = NoStation; place = f.next.at }) ≡ shown (reading s)
        nodes_none e =
            let z : some n.value ≡ false = no_station n.value (sym (ap (λ (y : Book). y.stations) n.held) ∙ e) in
            stopped headed (record { is = rw (n.is, z); within = rw (← n.same) f.next.within })

        pub nodes_on : (f.book.stations ≡ 0 → ⊥) → NodesOn k f
        nodes_on e =
            let z : some n.value ≡ true = some_station n.value (λ y. e (ap (λ (b : Book). b.stations) n.held ∙ y)) in
            record { read = nodes_read s bytes 6 k.nodes k.few.0 n; same = n.same; left = record { is = headed.is ∙ rw (n.is, z) } }

    module _ {f : Filled} (n : NodesOn k f) where
      pub spans_stop : {r : Refusal} → ((ns : List Bool) → f.book ≡ book_of (partly ns [] [] []) → Told (Err r) f.next (each (λ y. sp (length ns)) k.spans []) (HoldsSpans ns)) → Err r ≡ shown (reading s)
      spans_stop h = stopped n.left (halted_then _ (rw n.same at h n.read.ns n.read.is))

      module _ {g : Filled} (h : (ns : List Bool) → f.book ≡ book_of (partly ns [] [] []) → Told (Ok g) f.next (each (λ y. sp (length ns)) k.spans []) (HoldsSpans ns)) where
        all_spans : Reached s (each (λ y. sp (length n.read.ns)) k.spans [] s (drop f.next.at s)) (HoldsSpans n.read.ns) g
        all_spans = rw n.same at h n.read.ns n.read.is

        pub spans_on : SpansOn k g
        spans_on =
            record { read = spans_read s bytes f.next.at k.spans n.read k.few.1 all_spans; same = all_spans.same; left = record { is = n.left.is ∙ rw all_spans.is } }

    module _ {f : Filled} (n : SpansOn k f) where
      pub lightpaths_stop : {r : Refusal} → ((ns : List Bool) (sps : List Span) → f.book ≡ book_of (partly ns sps [] []) → Told (Err r) f.next (each (λ y. lp ns sps) k.lightpaths []) (HoldsLightpaths ns sps))
          → Err r ≡ shown (reading s)
      lightpaths_stop h = stopped n.left (halted_then _ (rw n.same at h n.read.ns n.read.sps n.read.is))

      module _ {g : Filled} (h : (ns : List Bool) (sps : List Span) → f.book ≡ book_of (partly ns sps [] []) → Told (Ok g) f.next (each (λ y. lp ns sps) k.lightpaths []) (HoldsLightpaths ns sps)) where
        all_lightpaths : Reached s (each (λ y. lp n.read.ns n.read.sps) k.lightpaths [] s (drop f.next.at s)) (HoldsLightpaths n.read.ns n.read.sps) g
        all_lightpaths = rw n.same at h n.read.ns n.read.sps n.read.is

        pub lightpaths_on : LightpathsOn k g
        lightpaths_on =
            record { read = lightpaths_read s bytes f.next.at k.lightpaths n.read k.few.2 all_lightpaths; same = all_lightpaths.same; left = record { is = n.left.is ∙ rw all_lightpaths.is } }

    module _ {f : Filled} (n : LightpathsOn k f) where
      pub alternatives_stop : {r : Refusal} → ((ns : List Bool) (sps : List Span) (lps : List Lightpath) → f.book ≡ book_of (partly ns sps lps []) → every (λ before. lightpath_fits ns sps) [] lps ≡ true
          → Told (Err r) f.next (each (al sps (map ends_of lps)) k.alternatives []) (HoldsAll ns sps lps)) → Err r ≡ shown (reading s)
      alternatives_stop h = stopped n.left (halted_then _ (rw n.same at h n.read.ns n.read.sps n.read.lps n.read.is n.read.fit))

      module _ {g : Filled} (h : (ns : List Bool) (sps : List Span) (lps : List Lightpath) → f.book ≡ book_of (partly ns sps lps []) → every (λ before. lightpath_fits ns sps) [] lps ≡ true
          → Told (Ok g) f.next (each (al sps (map ends_of lps)) k.alternatives []) (HoldsAll ns sps lps)) where
        last : Reached s (each (al n.read.sps (map ends_of n.read.lps)) k.alternatives [] s (drop f.next.at s)) (HoldsAll n.read.ns n.read.sps n.read.lps) g
        last = rw n.same at h n.read.ns n.read.sps n.read.lps n.read.is n.read.fit

        ended : Left (at_end (partly n.read.ns n.read.sps n.read.lps last.value)) g.next.at
        ended = record { is = n.left.is ∙ rw last.is }

        pub end_stop : {r : Refusal} → EndRead (Err r) g.next.s.now g.next.at → Err r ≡ shown (reading s)
        end_stop e = stopped ended (rw last.same at e _)

        pub whole : EndRead (Ok tt) g.next.s.now g.next.at → Ok g.book ≡ shown (reading s)
        unfolding reading
        whole e =
            let z : EndRead (Ok tt) s g.next.at = rw last.same at e in
            rw (ended.is, z _) (ap (λ (b : Book). Ok b) last.held)
