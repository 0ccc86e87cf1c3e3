-- THE LAW of the format: reading says good with the book m exactly if m is well formed and the bytes are `encode m`.
-- So no book has a second encoding, and nothing is accepted by accident; each kind of record brings its own pair of laws.
use Prim.Native.Nat.{ℕ}
use mathlib.Core.Path.{◌≡◌, refl, sym, ap, ◌∙◌, subst}
use mathlib.Core.List.{List, [], ◌∷◌, ◌++◌, map}
use mathlib.Core.Bool.{Bool, true, false≢true}
use native.Mathlib.Omega.{arith}
use lib.ListN.{length}
use Rattle.book.specs.Reader.{Got, got, bad, and_then, need, opened}
use Rattle.book.specs.Book.{RouteBook, some, every, ends_of, counts_fit, well_formed}
use Rattle.book.specs.Format.{EN, bytes_of, hd_bytes, nd_bytes, sp_bytes, lp_bytes, al_bytes, en_bytes, encode, field, hd, at_end, book, good, placed, reading}
use Rattle.book.proofs.Parts.{parts, whole}
use Rattle.book.proofs.Readers.{Bytes, bytes_after, then_got, need_got, carried, opened_back, opened_only, each_back, each_then}
use Rattle.book.proofs.Records.{hd_back, hd_only, nd_right, sp_right, lp_right, al_right}

pub every_true : {A : Type 0} (before l : List A) → every (λ b a. true) before l ≡ true
unfolding every
every_true before [] = refl
every_true before (a ∷ l) = every_true (a ∷ before) l

book_back : (m : RouteBook) (here : List ℕ) → well_formed m ≡ true → book here (encode m) ≡ got m []
unfolding book encode
book_back m here h =
    let ns = m.nodes in
    let sps = m.spans in
    let lps = m.lightpaths in
    let als = m.alternatives in
    let p = parts m h in
    let t3 = bytes_of al_bytes als ++ en_bytes in
    let t2 = bytes_of lp_bytes lps ++ t3 in
    let t1 = bytes_of sp_bytes sps ++ t2 in
    let t0 = bytes_of nd_bytes ns ++ t1 in
    rw (
      hd_back (length ns) (length sps) (length lps) (length als) (encode m) t0 p.counts,
      each_back (λ before. nd_right) ns [] here t1 (every_true [] ns),
      p.station,
      each_back (λ before. sp_right (length ns)) sps [] here t2 p.spans,
      each_back (λ before. lp_right ns sps) lps [] here t3 p.lightpaths,
      each_back (λ before. al_right sps (map ends_of lps) before) als [] here en_bytes p.alternatives,
      opened_back EN 0 [] en_bytes [] refl,
    ) refl

hd_then : {B P : Type 0} (s : List ℕ) (k : List ℕ → List ℕ → Got B) {b : B} {v : List ℕ} → Bytes s → and_then (hd s s) k ≡ got b v
    → ((c u : List ℕ) → s ≡ hd_bytes (field c 0) (field c 1) (field c 2) (field c 3) ++ u → counts_fit (field c 0) (field c 1) (field c 2) (field c 3) ≡ true
    → Bytes u → k c u ≡ got b v → P) → P
hd_then s k h e go =
    let z = then_got (hd s s) k e in
    let o = hd_only s s z.2 in
    let c = z.0 in
    go c z.1 o.0 o.1 (bytes_after (hd_bytes (field c 0) (field c 1) (field c 2) (field c 3)) z.1 (subst Bytes o.0 h)) z.3

empty : (s : List ℕ) → at_end s ≡ true → s ≡ []
empty [] e = refl
empty (x ∷ s) e = absurd (false≢true e)

-- nothing but EN is left
en_only : {B : Type 0} (x b : B) (s v : List ℕ) → and_then (opened EN 0 s s) (λ c u. and_then (need (at_end u) 9 u u) (λ c u. got x u)) ≡ got b v → (s ≡ en_bytes) × (x ≡ b)
en_only x b s v e =
    let z = then_got (opened EN 0 s s) _ e in
    let y = need_got (at_end z.1) 9 z.1 z.1 (λ c u. got x u) z.3 in
    ((opened_only EN 0 s s z.2).0 ∙ ap (λ (l : List ℕ). en_bytes ++ l) (empty z.1 y.0), carried (λ a u. x ≡ a) y.1 refl)

book_only : (here s : List ℕ) {m : RouteBook} {t : List ℕ} → Bytes s → book here s ≡ got m t → (encode m ≡ s) × (well_formed m ≡ true)
unfolding book encode
book_only here s {m} {t} h e =
    hd_then s _ h e λ c r0 p0 q0 b0 e0.
    each_then (λ before. nd_right) (field c 0) here r0 _ b0 e0 λ ns r1 p1 l1 w1 b1 e1.
    let st = need_got (some ns) 10 r1 r1 _ e1 in
    each_then (λ before. sp_right (length ns)) (field c 1) here r1 _ b1 st.1 λ sps r2 p2 l2 w2 b2 e2.
    each_then (λ before. lp_right ns sps) (field c 2) here r2 _ b2 e2 λ lps r3 p3 l3 w3 b3 e3.
    each_then (λ before. al_right sps (map ends_of lps) before) (field c 3) here r3 _ b3 e3 λ als r4 p4 l4 w4 b4 e4.
    let en = en_only (record { nodes = ns; spans = sps; lightpaths = lps; alternatives = als }) m r4 t e4 in
    let q : r0 ≡ bytes_of nd_bytes ns ++ (bytes_of sp_bytes sps ++ (bytes_of lp_bytes lps ++ (bytes_of al_bytes als ++ en_bytes))) =
    p1 ∙ ap (λ (l : List ℕ). bytes_of nd_bytes ns ++ l)
    (p2 ∙ ap (λ (l : List ℕ). bytes_of sp_bytes sps ++ l) (p3 ∙ ap (λ (l : List ℕ). bytes_of lp_bytes lps ++ l) (p4 ∙ ap (λ (l : List ℕ). bytes_of al_bytes als ++ l) en.0)))
    in
    subst (λ (x : RouteBook). (encode x ≡ s) × (well_formed x ≡ true)) en.1 (
      sym (p0 ∙ λ i. hd_bytes (l1 i) (l2 i) (l3 i) (l4 i) ++ q i),
      whole (record { nodes = ns; spans = sps; lightpaths = lps; alternatives = als }) (record {
        counts = subst (λ (x : Bool). x ≡ true) (λ i. counts_fit (l1 i) (l2 i) (l3 i) (l4 i)) q0;
        station = st.0;
        spans = w2;
        lightpaths = w3;
        alternatives = w4;
      }),
    )

-- what is written reads back
pub reading_back : (m : RouteBook) → well_formed m ≡ true → reading (encode m) ≡ good m
unfolding reading
reading_back m h = ap (placed (encode m)) (book_back m (encode m) h)

-- and nothing else reads as good
pub reading_only : (b : List ℕ) (m : RouteBook) → Bytes b → reading b ≡ good m → (encode m ≡ b) × (well_formed m ≡ true)
unfolding reading
reading_only b m h e = go (book b b) refl e
  where
    go : (g : Got RouteBook) → book b b ≡ g → placed b g ≡ good m → (encode m ≡ b) × (well_formed m ≡ true)
    go (got x t) p q = let w : x ≡ m = cc in subst (λ (y : RouteBook). (encode y ≡ b) × (well_formed y ≡ true)) w (book_only b b h p)
    go (bad n s) p q = let z : ◌≡◌ {A = ℕ} 0 1 = cc in absurd (omega arith)
