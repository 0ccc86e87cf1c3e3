-- THE MOVABLE LIGHTPATHS of a book are gathered in one pass: since the alternatives stand by lightpath, the next one is of the lightpath found
-- last, or of one that is higher than all before. So after each alternative the struct holds the movable lightpaths of those gathered.
use Prim.Native.Nat.{ℕ, zero, suc, ◌+◌, ◌-◌, ◌≤◌, ◌<◌, min}
use mathlib.Core.Path.{◌≡◌, refl, sym, ap, ap₂, ◌∙◌, subst}
use mathlib.Core.List.{List, [], ◌∷◌, ◌++◌, map, map-append, append-nil, append_assoc, reverse_aux}
use mathlib.Core.Logic.{◌⊎◌, inl, inr, ⊎_elim}
use mathlib.Core.Bool.{Bool, true, false, cond, ◌&&◌, ◌||◌}
use native.Mathlib.Decide.{ℕ_discrete, dec_lt}
use native.Mathlib.Omega.{arith}
use lib.ListN.{length, get_or, take, set, replicate, length-append, length-map}
use lib.Seq.{set-append_seam, get_or-append_seam, take_at}
use lib.Dec.{eqb, ltb, leb}
use borrow.Author.Tests.{eq-eqb, ne_eqb, lt-ltb, le-ltb, ltb-true, leb-true}
use Rattle.book.specs.Book.{Span, Ends, Alternative, RouteBook, ends_of, well_formed, count, different, among, every, follows, lightpath_of, alternative_fits}
use Rattle.book.specs.Memory.{padded, book_of}
use Rattle.book.specs.Inside.{held_for, TallyOf}
use Rattle.book.specs.Choice.{owners, movable_from, movable}
use Rattle.book.specs.Moving.{movables_of, no_movables, last_is, with_more, with_new, with_one, gathered, movables_in}
use Rattle.book.specs.declared.choice.Movables.{Movables}
use Rattle.book.proofs.Tests.{and_inv}
use Rattle.book.proofs.Parts.{parts}
use Rattle.book.proofs.Tallies.{tally_none, count_among, tally_more}
use Rattle.book.proofs.Padded.{padded_set, padded_at}
use Rattle.book.proofs.Movables.{with_last, with_first}

-- the movable lightpaths from a on: by parts, none, and by their counts alone
movable_parts : (os : List ℕ) (a m n : ℕ) → movable_from os a (m + n) ≡ movable_from os a m ++ movable_from os (a + m) n
unfolding movable_from
movable_parts os a zero n = let e : a ≡ a + 0 = omega arith in let f : 0 + n ≡ n = omega arith in ap₂ (movable_from os) e f
movable_parts os a (suc m) n =
    let e : suc m + n ≡ suc (m + n) = omega arith in
    let f : suc a + m ≡ a + suc m = omega arith in
    ap (movable_from os a) e ∙ go (ltb 0 (count a os)) (movable_parts os (suc a) m n ∙ ap (λ (x : ℕ). movable_from os (suc a) m ++ movable_from os x n) f)
  where
    go : (t : Bool) → movable_from os (suc a) (m + n) ≡ movable_from os (suc a) m ++ movable_from os (a + suc m) n
        → cond t (a ∷ movable_from os (suc a) (m + n)) (movable_from os (suc a) (m + n)) ≡ cond t (a ∷ movable_from os (suc a) m) (movable_from os (suc a) m) ++ movable_from os (a + suc m) n
    go true ih = ap (λ (l : List ℕ). a ∷ l) ih
    go false ih = ih

movable_none : (os : List ℕ) (a n : ℕ) → ((j : ℕ) → a ≤ j → count j os ≡ 0) → movable_from os a n ≡ []
unfolding movable_from
movable_none os a zero h = refl
movable_none os a (suc n) h = rw (h a (omega arith)) (movable_none os (suc a) n (λ j l. h j (omega arith)))

pub movable_same : (os qs : List ℕ) (a n : ℕ) → ((j : ℕ) → a ≤ j → j < a + n → count j os ≡ count j qs) → movable_from os a n ≡ movable_from qs a n
unfolding movable_from
movable_same os qs a zero h = refl
movable_same os qs a (suc n) h =
    rw (h a (omega arith) (omega arith)) (ap (λ (l : List ℕ). cond (ltb 0 (count a qs)) (a ∷ l) l) (movable_same os qs (suc a) n (λ j l m. h j (omega arith) (omega arith))))

-- what is true of every number from a to a + n is true of the movable ones among them
pub movable_each : {P : ℕ → Type 0} (os : List ℕ) (a n : ℕ) → ((j : ℕ) → a ≤ j → j < a + n → P j) → (i : ℕ) → i < length (movable_from os a n) → P (get_or (movable_from os a n) i 0)
unfolding movable_from
movable_each os a zero h i l = absurd (omega arith)
movable_each {P} os a (suc n) h i l = go (ltb 0 (count a os)) (movable_each {P = P} os (suc a) n (λ j l m. h j (omega arith) (omega arith))) i l
  where
    go : (t : Bool) → ((i : ℕ) → i < length (movable_from os (suc a) n) → P (get_or (movable_from os (suc a) n) i 0))
        → (i : ℕ) → i < length (cond t (a ∷ movable_from os (suc a) n) (movable_from os (suc a) n)) → P (get_or (cond t (a ∷ movable_from os (suc a) n) (movable_from os (suc a) n)) i 0)
    go true later zero l = h a (omega arith) (omega arith)
    go true later (suc i) l = later i (omega arith)
    go false later i l = later i l

map_same : (f g : ℕ → ℕ) (l : List ℕ) → ((i : ℕ) → i < length l → f (get_or l i 0) ≡ g (get_or l i 0)) → map f l ≡ map g l
map_same f g [] h = refl
map_same f g (x ∷ l) h = ap₂ ◌∷◌ (h 0 (omega arith)) (map_same f g l (λ i q. h (suc i) (omega arith)))

-- the struct that holds the movable lightpaths among p, for alternatives of the lightpaths `before`
abbrev held_by : List ℕ → List ℕ → Movables
held_by ms cs = record { count = length ms; lightpath = padded 8 ms; more = padded 8 cs }

abbrev pub held_of : ℕ → List ℕ → Movables
held_of p before = held_by (movable_from before 0 p) (map (λ k. count k before) (movable_from before 0 p))

-- what is known of them: those after the last have none yet; as many as there are different ones, at most eight; at most seven for one
pub record Gathers (p : ℕ) (before : List ℕ) : Type 0 where
  pub last : ℕ
  pub same : ℕ
  pub many : ℕ
  pub tally : TallyOf before last same many
  pub counted : length (movable_from before 0 p) ≡ different before
  pub eight : different before ≤ 8
  pub seven : (k : ℕ) → count k before ≤ 7

-- what may follow
pub record Follows (p : ℕ) (before : List ℕ) (k : ℕ) : Type 0 where
  pub low : k < p
  pub last : get_or before 0 0 ≤ k
  pub room : (0 < count k before) ⊎ (different before < 8)
  pub few : count k before < 7

or_inv : {a b : Bool} → (a || b) ≡ true → (a ≡ true) ⊎ (b ≡ true)
or_inv {a = true} e = inl e
or_inv {a = false} e = inr e

pub follows_inv : (p : ℕ) (before : List ℕ) (k : ℕ) → follows p before k ≡ true → Follows p before k
unfolding follows
follows_inv p before k h =
    let a = and_inv {a = ltb k p && leb (get_or before 0 0) k && (ltb 0 (count k before) || ltb (different before) 8)} h in
    let b = and_inv {a = ltb k p && leb (get_or before 0 0) k} a.0 in
    let c = and_inv {a = ltb k p} b.0 in
    record {
      low = ltb-true k p c.0;
      last = leb-true (get_or before 0 0) k c.1;
      room = ⊎_elim (λ e. inl (ltb-true 0 (count k before) e)) (λ e. inr (ltb-true (different before) 8 e)) (or_inv b.1);
      few = ltb-true (count k before) 7 a.1;
    }

-- one more element in an array, at the place of the last
padded_last : (n : ℕ) (xs : List ℕ) (x y : ℕ) → set (padded n (xs ++ x ∷ [])) (length xs) y ≡ padded n (xs ++ y ∷ [])
unfolding padded
padded_last n xs x y =
    let e : n - length (xs ++ x ∷ []) ≡ n - length (xs ++ y ∷ []) = omega (arith, length-append xs (x ∷ []), length-append xs (y ∷ [])) in
    ap (λ (l : List ℕ). set l (length xs) y) (append_assoc xs (x ∷ []) (replicate (n - length (xs ++ x ∷ [])) 0))
    ∙ set-append_seam xs x (replicate (n - length (xs ++ x ∷ [])) 0) y
    ∙ ap (λ (i : ℕ). xs ++ y ∷ replicate i 0) e ∙ sym (append_assoc xs (y ∷ []) (replicate (n - length (xs ++ y ∷ [])) 0))

-- such a struct: which is the last, one alternative more for it, and a new one
module _ (ms cs : List ℕ) (k : ℕ) where
  last_at : length (ms ++ k ∷ []) - 1 ≡ length ms
  last_at = omega (arith, length-append ms (k ∷ []))

  held_last : last_is (held_by (ms ++ k ∷ []) cs) k ≡ true
  held_last = rw (lt-ltb 0 (length (ms ++ k ∷ [])) (omega (arith, length-append ms (k ∷ []))), last_at, padded_at 8 (ms ++ k ∷ []) (length ms), get_or-append_seam ms k [] 0) (eq-eqb k k refl)

  held_other : ((i : ℕ) → i < length ms → get_or ms i 0 < k) → last_is (held_by ms cs) k ≡ false
  held_other h = go (dec_lt 0 (length ms))
    where
      go : Dec (0 < length ms) → last_is (held_by ms cs) k ≡ false
      go (yes l) = rw (lt-ltb 0 (length ms) l, padded_at 8 ms (length ms - 1)) (ne_eqb (get_or ms (length ms - 1) 0) k (λ e. omega (arith, h (length ms - 1) (omega arith))))
      go (no l) = rw (le-ltb 0 (length ms) (omega arith))

  held_more : (c : ℕ) → length cs ≡ length ms → c < 7 → with_more (held_by (ms ++ k ∷ []) (cs ++ c ∷ [])) ≡ held_by (ms ++ k ∷ []) (cs ++ (c + 1) ∷ [])
  held_more c e l =
      let at : length (ms ++ k ∷ []) - 1 ≡ length cs = last_at ∙ sym e in
      let up : min (c + 1) 7 ≡ c + 1 = omega arith in
      let is : get_or (padded 8 (cs ++ c ∷ [])) (length cs) 0 ≡ c = padded_at 8 (cs ++ c ∷ []) (length cs) ∙ get_or-append_seam cs c [] 0 in
      ap (λ (x : List ℕ). record { count = length (ms ++ k ∷ []); lightpath = padded 8 (ms ++ k ∷ []); more = x }) (rw (at, is, up) (padded_last 8 cs c (c + 1)))

  held_new : length cs ≡ length ms → length ms < 8 → with_new (held_by ms cs) k ≡ held_by (ms ++ k ∷ []) (cs ++ 1 ∷ [])
  held_new e l =
      let n : length ms + 1 ≡ length (ms ++ k ∷ []) = omega (arith, length-append ms (k ∷ [])) in
      λ i. record { count = n i; lightpath = padded_set 8 (length ms) ms k refl l i; more = padded_set 8 (length ms) cs 1 e l i }

module _ (p : ℕ) (before : List ℕ) (g : Gathers p before) (k : ℕ) (f : Follows p before k) where
  -- those below k, which are as they were; then k; and none above
  abbrev below : List ℕ
  below = movable_from before 0 k

  above : (j : ℕ) → suc k ≤ j → count j before ≡ 0
  above j l =
      let last-low : g.last ≤ k = omega (arith, f.last, g.tally.is_last) in
      g.tally.is_same j (omega arith) ∙ rw (ne_eqb j g.last (λ e. omega arith))

  count_other : (j : ℕ) → (j ≡ k → ⊥) → count j (k ∷ before) ≡ count j before
  unfolding count
  count_other j n = rw (ne_eqb k j (λ e. n (sym e))) (omega arith)

  count_this : count k (k ∷ before) ≡ count k before + 1
  unfolding count
  count_this = rw (eq-eqb k k refl) (omega arith)

  split : (os : List ℕ) → ((j : ℕ) → suc k ≤ j → count j os ≡ 0) → movable_from os 0 p ≡ movable_from os 0 k ++ cond (ltb 0 (count k os)) (k ∷ []) []
  unfolding movable_from
  split os none =
      let e : p ≡ k + suc (p - suc k) = omega (arith, f.low) in
      let z : 0 + k ≡ k = omega arith in
      ap (movable_from os 0) e ∙ movable_parts os 0 k (suc (p - suc k)) ∙ ap (λ (x : ℕ). movable_from os 0 k ++ movable_from os x (suc (p - suc k))) z
      ∙ ap (λ (l : List ℕ). movable_from os 0 k ++ cond (ltb 0 (count k os)) (k ∷ l) l) (movable_none os (suc k) (p - suc k) none)

  now : movable_from before 0 p ≡ below ++ cond (ltb 0 (count k before)) (k ∷ []) []
  now = split before above

  next : movable_from (k ∷ before) 0 p ≡ below ++ k ∷ []
  next =
      split (k ∷ before) (λ j l. count_other j (λ e. omega arith) ∙ above j l)
      ∙ ap₂ (λ (x : List ℕ) (t : Bool). x ++ cond t (k ∷ []) []) (movable_same (k ∷ before) before 0 k (λ j l m. count_other j (λ e. omega arith))) (lt-ltb 0 (count k (k ∷ before)) (omega (arith, count_this)))

  counts_below : map (λ j. count j (k ∷ before)) below ≡ map (λ j. count j before) below
  counts_below = map_same (λ j. count j (k ∷ before)) (λ j. count j before) below (movable_each {P = λ j. count j (k ∷ before) ≡ count j before} before 0 k (λ j l m. count_other j (λ e. omega arith)))

  counts_next : map (λ j. count j (k ∷ before)) (below ++ k ∷ []) ≡ map (λ j. count j before) below ++ (count k before + 1) ∷ []
  counts_next = map-append (λ j. count j (k ∷ before)) below (k ∷ []) ∙ ap₂ (λ (x : List ℕ) (y : ℕ). x ++ y ∷ []) counts_below count_this

  held_next : held_of p (k ∷ before) ≡ held_by (below ++ k ∷ []) (map (λ j. count j before) below ++ (count k before + 1) ∷ [])
  held_next = ap (λ (ms : List ℕ). held_by ms (map (λ j. count j (k ∷ before)) ms)) next ∙ ap (held_by (below ++ k ∷ [])) counts_next

  -- the lightpath found last has one more
  old : 0 < count k before → with_one (held_of p before) k ≡ held_of p (k ∷ before)
  old l =
      let cs = map (λ j. count j before) below in
      let is : movable_from before 0 p ≡ below ++ k ∷ [] = now ∙ ap (λ (t : Bool). below ++ cond t (k ∷ []) []) (lt-ltb 0 (count k before) l) in
      let held : held_of p before ≡ held_by (below ++ k ∷ []) (cs ++ count k before ∷ []) =
      ap (λ (ms : List ℕ). held_by ms (map (λ j. count j before) ms)) is ∙ ap (held_by (below ++ k ∷ [])) (map-append (λ j. count j before) below (k ∷ []))
      in
      ap (λ (w : Movables). with_one w k) held ∙ with_last (held_by (below ++ k ∷ []) (cs ++ count k before ∷ [])) k (held_last below (cs ++ count k before ∷ []) k)
      ∙ held_more below cs k (count k before) (length-map below (λ j. count j before)) f.few ∙ sym held_next

  -- or a new one is found
  new : count k before ≡ 0 → with_one (held_of p before) k ≡ held_of p (k ∷ before)
  new z =
      let cs = map (λ j. count j before) below in
      let is : movable_from before 0 p ≡ below = now ∙ rw z (append-nil below) in
      let few : length below < 8 = omega (arith, ap length is, g.counted, ⊎_elim {C = different before < 8} (λ l. absurd (omega arith)) (λ l. l) f.room) in
      let one : 1 ≡ count k before + 1 = omega arith in
      ap (λ (ms : List ℕ). with_one (held_by ms (map (λ j. count j before) ms)) k) is
      ∙ with_first (held_by below cs) k (held_other below cs k (movable_each {P = λ j. j < k} before 0 k (λ j l m. omega arith))) few
      ∙ held_new below cs k (length-map below (λ j. count j before)) few ∙ ap (λ (x : ℕ). held_by (below ++ k ∷ []) (cs ++ x ∷ [])) one ∙ sym held_next

  with_next : with_one (held_of p before) k ≡ held_of p (k ∷ before)
  with_next = go (dec_lt 0 (count k before))
    where
      go : Dec (0 < count k before) → with_one (held_of p before) k ≡ held_of p (k ∷ before)
      go (yes l) = old l
      go (no l) = new (omega arith)

  counts_differ : (different (k ∷ before) ≡ length below + 1) × (length below + 1 ≤ 8)
  unfolding different
  counts_differ = go (dec_lt 0 (count k before))
    where
      go : Dec (0 < count k before) → (cond (among k before) 0 1 + different before ≡ length below + 1) × (length below + 1 ≤ 8)
      go (yes l) =
          let is : length (movable_from before 0 p) ≡ length below + 1 = ap length (now ∙ ap (λ (t : Bool). below ++ cond t (k ∷ []) []) (lt-ltb 0 (count k before) l)) ∙ length-append below (k ∷ []) in
          let in-it : among k before ≡ true = count_among k before ∙ rw (ne_eqb (count k before) 0 (λ e. omega arith)) in
          rw in-it (omega (arith, is, g.counted, g.eight))
      go (no l) =
          let z : count k before ≡ 0 = omega arith in
          let is : length (movable_from before 0 p) ≡ length below = ap length now ∙ rw z (ap length (append-nil below)) in
          let out-of-it : among k before ≡ false = count_among k before ∙ rw z in
          let room : different before < 8 = ⊎_elim {C = different before < 8} (λ m. absurd (omega arith)) (λ m. m) f.room in
          rw out-of-it (omega (arith, is, g.counted, room))

  gathers_next : Gathers p (k ∷ before)
  gathers_next = record {
    last = k;
    same = held_for g.last g.same k + 1;
    many = g.many + cond (eqb (held_for g.last g.same k) 0) 1 0;
    tally = tally_more before g.last g.same g.many g.tally k (omega (arith, f.last, g.tally.is_last));
    counted = ap length next ∙ length-append below (k ∷ []) ∙ sym counts_differ.0;
    eight = omega (arith, counts_differ);
    seven = λ j. each j (ℕ_discrete j k);
  }
    where
      each : (j : ℕ) → Dec (j ≡ k) → count j (k ∷ before) ≤ 7
      each j (yes e) = subst (λ (x : ℕ). count x (k ∷ before) ≤ 7) (sym e) (omega (arith, count_this, f.few))
      each j (no n) = omega (arith, count_other j n, g.seven j)

-- THE LAW, for the alternatives that are left
module _ (sps : List Span) (es : List Ends) where
  gather_all : (before als : List Alternative) → every (alternative_fits sps es) before als ≡ true → Gathers (length es) (map lightpath_of before)
      → (gathered (held_of (length es) (map lightpath_of before)) (map lightpath_of als) ≡ held_of (length es) (map lightpath_of (reverse_aux als before)))
      × Gathers (length es) (map lightpath_of (reverse_aux als before))
  unfolding gathered every
  gather_all before [] h g = (refl, g)
  gather_all before (a ∷ als) h g =
      let z = and_inv {a = alternative_fits sps es before a} h in
      let k = a.lightpath in
      let fits = follows_inv (length es) (map lightpath_of before) k (and_inv {a = follows (length es) (map lightpath_of before) k} z.0).0 in
      let r = gather_all (a ∷ before) als z.1 (gathers_next (length es) (map lightpath_of before) g k fits) in
      (ap (λ (w : Movables). gathered w (map lightpath_of als)) (with_next (length es) (map lightpath_of before) g k fits) ∙ r.0, r.1)

-- the order in which they were gathered does not matter
count_turned : (k : ℕ) (als before : List Alternative) → count k (map lightpath_of (reverse_aux als before)) ≡ count k (map lightpath_of als) + count k (map lightpath_of before)
unfolding count
count_turned k [] before = omega arith
count_turned k (a ∷ als) before = count_turned k als (a ∷ before) ∙ omega arith

gathers_none : (p : ℕ) → Gathers p []
unfolding count different
gathers_none p = record {
  last = 0;
  same = 0;
  many = 0;
  tally = tally_none;
  counted = ap length (movable_none [] 0 p (λ j l. refl));
  eight = omega arith;
  seven = λ k. omega arith;
}

module _ (m : RouteBook) (w : well_formed m ≡ true) where
  es : List Ends
  es = map ends_of m.lightpaths

  all : (gathered (held_of (length es) []) (owners m) ≡ held_of (length es) (map lightpath_of (reverse_aux m.alternatives []))) × Gathers (length es) (map lightpath_of (reverse_aux m.alternatives []))
  unfolding es
  all = gather_all m.spans es [] m.alternatives (parts m w).alternatives (gathers_none (length es))

  turned : (k : ℕ) → count k (map lightpath_of (reverse_aux m.alternatives [])) ≡ count k (owners m)
  unfolding count
  turned k = count_turned k m.alternatives [] ∙ omega arith

  -- at most seven alternatives for one lightpath, and at most eight lightpaths with any
  pub seven_most : (k : ℕ) → count k (owners m) ≤ 7
  seven_most k = omega (arith, all.1.seven k, turned k)

  long : length es ≡ length m.lightpaths
  unfolding es
  long = length-map m.lightpaths ends_of

  same_movable : movable_from (map lightpath_of (reverse_aux m.alternatives [])) 0 (length es) ≡ movable m
  same_movable = ap (movable_from (map lightpath_of (reverse_aux m.alternatives [])) 0) long ∙ movable_same _ (owners m) 0 (length m.lightpaths) (λ j l q. turned j)

  pub eight_most : length (movable m) ≤ 8
  eight_most = omega (arith, ap length same_movable, all.1.counted, all.1.eight)

  -- so the struct holds the movable lightpaths of the book
  pub movables-of : movables_in (book_of m) ≡ movables_of m
  unfolding padded count
  movables-of =
      let rev = map lightpath_of (reverse_aux m.alternatives []) in
      let none : no_movables ≡ held_of (length es) [] = ap (λ (ms : List ℕ). held_by ms (map (λ k. count k []) ms)) (sym (movable_none [] 0 (length es) (λ j l. refl))) in
      let lent : take (length m.alternatives) (padded 56 (owners m)) ≡ owners m = take_at (owners m) _ (length m.alternatives) (length-map m.alternatives lightpath_of) in
      ap₂ gathered none lent ∙ all.0
      ∙ ap₂ held_by same_movable (ap (map (λ k. count k rev)) same_movable ∙ map_same (λ k. count k rev) (λ k. count k (owners m)) (movable m) (λ i l. turned (get_or (movable m) i 0)))
