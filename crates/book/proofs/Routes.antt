-- LP and AL records end alike, with a route: its faults, test by test, and those of the whole record from it.
-- The ends of the route come from the LP record itself or from the lightpath that an AL record names.
use Prim.Native.Nat.{ℕ, ◌+◌, ◌-◌, ◌≤◌, ◌<◌}
use mathlib.Core.Path.{◌≡◌, refl, sym, ap, ◌∙◌, subst}
use mathlib.Core.List.{List, [], ◌∷◌, ◌++◌, map, map-map}
use mathlib.Core.Bool.{Bool, true, false}
use native.Mathlib.Omega.{arith}
use lib.ListN.{length, get_or, take, drop, length-drop, length-map, take-append-drop, get_or-map}
use lib.Seq.{drop-drop, drop-append-le, length-take-le}
use lib.Dec.{leb}
use borrow.Author.Tests.{le-leb, lt-leb, leb-true}
use Rattle.std.specs.Prelude.{Option, Some, None, Err}
use Rattle.book.specs.declared.Book.{Book}
use Rattle.book.specs.declared.record.Lightpath.{Lightpath as ReadLightpath}
use Rattle.book.specs.declared.record.Alternative.{Alternative as ReadAlternative}
use Rattle.book.specs.declared.record.Tally.{Tally}
use Rattle.book.specs.declared.refusal.Fault.{Fault}
use Rattle.book.specs.declared.refusal.Fault.TheVariants.{CutShort, BadField, SpanTooHigh, BadLength, BrokenWalk, OutOfOrder}
use Rattle.book.specs.declared.refusal.Refusal.{Refusal}
use Rattle.book.specs.Reader.{opened}
use Rattle.book.specs.Book.{Span, Ends, Lightpath, Alternative, below, length_fits, lightpath_ends, follows, lightpath_of, ends_of, ends_at}
use Rattle.book.specs.Format.{LP, AL, field, from_high, from_stray, route}
use Rattle.book.specs.Bits.{put}
use Rattle.book.specs.Memory.{padded, book_of}
use Rattle.book.specs.Inside.{Came, Halted, SpansIn, stray_in, ends_in, ends_fit, RouteCame, RouteRead, partly, LpCame, LpRead, TallyOf, follows_in, AlCame, AlRead}
use Rattle.book.proofs.Tests.{and_inv}
use Rattle.book.proofs.Stands.{length_most}
use Rattle.book.proofs.Padded.{padded_at}
pub use Rattle.book.proofs.Steps.{part, lent}
use Rattle.book.proofs.Walking.{HighAt, StrayAt, stray-in}
use Rattle.book.proofs.Stations.{ends_same}
use Rattle.book.proofs.Tallies.{follows_low, tally_follows}

length_least : (n : ℕ) → length_fits n ≡ true → 1 ≤ n
unfolding length_fits
length_least n h = leb-true 1 n (and_inv {a = leb 1 n} h).0

-- the bytes from span i of a route on, and what comes after the route
spans_on : (u : List ℕ) (len i : ℕ) → i ≤ length (take len u) → drop i (take len u) ++ drop len u ≡ drop i u
spans_on u len i l = sym (drop-append-le i (take len u) (drop len u) l) ∙ ap (drop i) (take-append-drop len u)

-- a route that begins at `start` in the record at `at`, by the arrays that the code has
module _ (s : List ℕ) (at start len : ℕ) (e : Ends) (b : Book) (here : at ≤ length s) where
  abbrev Stops : Fault → ℕ → Type 0
  Stops f p = (sps : List Span) → SpansIn sps b → Halted s (route sps e len (drop at s) (drop start s)) (record { fault = f; place = p })

  pub no_length : length_fits len ≡ false → Stops BadLength at
  no_length f sps i = record { is = rw f; within = here }

  module _ (f : length_fits len ≡ true) where
    pub no_torn : length s - start < len → Stops CutShort at
    no_torn l sps i = record { is = rw (f, lt-leb len (length (drop start s)) (omega (arith, length-drop start s))); within = here }

    module _ (l : start + len ≤ length s) where
      abbrev r : List ℕ
      r = take len (drop start s)

      there : len ≤ length (drop start s)
      there = omega (arith, length-drop start s)

      long : length r ≡ len
      long = length-take-le len (drop start s) there

      low_in : (sps : List Span) (t : Bool) → SpansIn sps b → below b.spans r ≡ t → below (length sps) r ≡ t
      low_in sps t i h = subst (λ (n : ℕ). below n r ≡ t) i.counted h

      -- the reader points at span i
      points : (i : ℕ) (q : List ℕ) → i ≤ length r → drop i r ≡ q → q ++ drop len (drop start s) ≡ drop (start + i) s
      points i q k h = ap (λ (x : List ℕ). x ++ drop len (drop start s)) (sym h) ∙ spans_on (drop start s) len i k ∙ drop-drop i start s

      pub no_high : (i : ℕ) → HighAt b.spans r (Some i) → Stops SpanTooHigh (start + i)
      no_high i h sps x =
          let p = points i (from_high (length sps) r) h.2 (h.1 ∙ ap (λ (n : ℕ). from_high n r) x.counted) in
          record { is = rw (f, le-leb len (length (drop start s)) there, low_in sps false x h.0, p); within = omega (arith, h.2, long) }

      module _ (h : HighAt b.spans r None) where
        -- what the code's walk says of the walk of the route rule
        walked : (a : Option ℕ) → a ≡ stray_in b.left b.right (put 0 e.from) e.from 0 0 r e.to → (sps : List Span) → SpansIn sps b → StrayAt sps r (e.from ∷ []) e.from e.to r a
        walked a w sps x = subst (StrayAt sps r (e.from ∷ []) e.from e.to r) (sym w) (stray-in sps b.left b.right x.is_left x.is_right r e.to e.from (omega (arith, length_least len f, long)))

        pub no_walk : (i : ℕ) → Some i ≡ stray_in b.left b.right (put 0 e.from) e.from 0 0 r e.to → i ≤ length r → Stops BrokenWalk (start + i)
        no_walk i w k sps x =
            let z = walked (Some i) w sps x in
            let p = points i (from_stray sps (e.from ∷ []) e.from r) k z.1 in
            record { is = rw (f, le-leb len (length (drop start s)) there, low_in sps true x h, z.0, p); within = omega (arith, long) }

        pub no_fault : None ≡ stray_in b.left b.right (put 0 e.from) e.from 0 0 r e.to → RouteCame r s at start len e b
        no_fault w = record {
          short = omega (arith, long, length_most len f);
          within = omega (arith, long);
          told = λ sps x.
              rw (f, le-leb len (length (drop start s)) there, low_in sps true x h, walked None w sps x, long, drop-drop len start s);
        }

-- a look-up in an array is one in the list
pub column_at : {A : Type 0} (n : ℕ) (f : A → ℕ) (xs : List A) (d : A) → f d ≡ 0 → (k : ℕ) → get_or (padded n (map f xs)) k 0 ≡ f (get_or xs k d)
column_at n f xs d z k = padded_at n (map f xs) k ∙ ap (get_or (map f xs) k) (sym z) ∙ get_or-map f xs k d

-- the arrays of a book, and what it says
module _ (ns : List Bool) (sps : List Span) (lps : List Lightpath) (als : List Alternative) {b : Book} (e : b ≡ book_of (partly ns sps lps als)) where
  spans_in : SpansIn sps b
  spans_in = rw e (record {
    counted = refl;
    is_left = column_at 128 (λ (x : Span). x.left) sps _ refl;
    is_right = column_at 128 (λ (x : Span). x.right) sps _ refl;
  })

  owners_in : (k : ℕ) → ends_at (map ends_of lps) k ≡ record { from = get_or b.from k 0; to = get_or b.to k 0 }
  owners_in k = rw (
    e,
    ← map-map (λ (x : Ends). x.from) ends_of lps,
    ← map-map (λ (x : Ends). x.to) ends_of lps,
    column_at 96 (λ (x : Ends). x.from) (map ends_of lps) (record { from = 0; to = 0 }) refl k,
    column_at 96 (λ (x : Ends). x.to) (map ends_of lps) (record { from = 0; to = 0 }) refl k,
  )

-- LP, whose mark and fixed fields v are read
module _ (s : List ℕ) (at : ℕ) (b : Book) (here : at ≤ length s) {v : List ℕ} (o : Came s (opened LP 3 (drop at s) (drop at s)) v (at + (2 + 3))) where
  abbrev lp_ends : Ends
  lp_ends = record { from = field v 0; to = field v 1 }

  tested : (ns : List Bool) (sps : List Span) (t : Bool) → b ≡ book_of (partly ns sps [] []) → ends_fit b.nodes b.stations (field v 0) (field v 1) ≡ t → lightpath_ends ns lp_ends ≡ t
  tested ns sps t e h = sym (ends_same ns lp_ends) ∙ subst (λ (x : Book). ends_fit x.nodes x.stations (field v 0) (field v 1) ≡ t) e h

  pub lp_unfit : ends_fit b.nodes b.stations (field v 0) (field v 1) ≡ false → LpRead (Err (record { fault = BadField; place = at })) s at b
  lp_unfit h ns sps e = record { is = rw (o.is, tested ns sps false e h); within = here }

  module _ (h : ends_fit b.nodes b.stations (field v 0) (field v 1) ≡ true) where
    pub lp_stop : {r : Refusal} → RouteRead (Err r) s at (at + 5) (field v 2) lp_ends b → LpRead (Err r) s at b
    lp_stop w ns sps e = let x = w sps (spans_in ns sps [] [] e) in record { is = rw (o.is, tested ns sps true e h, x.is); within = x.within }

    pub lp_whole : (p : ReadLightpath) → ends_in p.ends ≡ lp_ends → RouteCame p.route.now s at (at + 5) (field v 2) lp_ends b → LpCame p s at b
    lp_whole p q w = record {
      short = w.short;
      within = w.within;
      told = λ ns sps e. let x = w.told sps (spans_in ns sps [] [] e) in rw (o.is, tested ns sps true e h, x, ← q);
    }

-- AL, whose mark and fixed fields v are read
module _ (s : List ℕ) (at : ℕ) (t : Tally) (b : Book) (here : at ≤ length s) {v : List ℕ} (o : Came s (opened AL 2 (drop at s) (drop at s)) v (at + (2 + 2))) where
  abbrev al_ends : Ends
  al_ends = record { from = get_or b.from (field v 0) 0; to = get_or b.to (field v 0) 0 }

  told_follows : (ns : List Bool) (sps : List Span) (lps : List Lightpath) (before : List Alternative) (u : Bool) → b ≡ book_of (partly ns sps lps [])
      → TallyOf (map lightpath_of before) t.last t.same t.different → follows_in t.last t.same t.different b.lightpaths (field v 0) ≡ u
      → follows (length (map ends_of lps)) (map lightpath_of before) (field v 0) ≡ u
  told_follows ns sps lps before u e y h =
      sym (tally_follows (map lightpath_of before) t.last t.same t.different y (length (map ends_of lps)) (field v 0))
      ∙ rw (length-map lps ends_of) (subst (λ (x : Book). follows_in t.last t.same t.different x.lightpaths (field v 0) ≡ u) e h)

  pub al_unfit : follows_in t.last t.same t.different b.lightpaths (field v 0) ≡ false → AlRead (Err (record { fault = OutOfOrder; place = at })) s at t b
  al_unfit h ns sps lps before e y = record { is = rw (o.is, told_follows ns sps lps before false e y h); within = here }

  module _ (h : follows_in t.last t.same t.different b.lightpaths (field v 0) ≡ true) where
    pub al_stop : {r : Refusal} → RouteRead (Err r) s at (at + 4) (field v 1) al_ends b → AlRead (Err r) s at t b
    al_stop w ns sps lps before e y =
        let x = w sps (spans_in ns sps lps [] e) in
        record { is = rw (o.is, told_follows ns sps lps before true e y h, owners_in ns sps lps [] e (field v 0), x.is); within = x.within }

    pub al_whole : (a : ReadAlternative) → a.lightpath ≡ field v 0 → RouteCame a.route.now s at (at + 4) (field v 1) al_ends b → AlCame a s at t b
    al_whole a q w = record {
      short = w.short;
      within = w.within;
      risen = rw q (follows_low t.last t.same t.different b.lightpaths (field v 0) h).1;
      told = λ ns sps lps before e y.
          let x = w.told sps (spans_in ns sps lps [] e) in
          rw (o.is, told_follows ns sps lps before true e y h, owners_in ns sps lps [] e (field v 0), x, q);
    }
