-- The pieces of which every record's reader is made, forwards and backwards: what was written is read, and what was read was so written.
-- A kind of record then needs only its own pair of laws, `Right`, which is closed under "n records of the kind".
use Prim.Native.Nat.{ℕ, zero, suc}
use mathlib.Core.Path.{◌≡◌, refl, sym, ap, ◌∙◌, subst}
use mathlib.Core.List.{List, [], ◌∷◌, ◌++◌, append_assoc}
use mathlib.Core.Bool.{Bool, true, false, cond}
use native.Mathlib.Omega.{arith}
use lib.ListN.{length, take, drop, length-append, take-append-drop}
use lib.Seq.{take_at, drop_at, length-take-le}
use lib.Dec.{eqb, ltb, leb}
use borrow.Author.Tests.{leb-true, le-leb, eqb-true, eq-eqb}
use Rattle.book.specs.Reader.{Got, got, bad, Reader, and_then, need, each, fields, Mark, is_mark, opened}
use Rattle.book.specs.Book.{below, every}
use Rattle.book.specs.Format.{record_bytes, bytes_of, field}
use Rattle.book.proofs.Tests.{and_inv, and_both}

-- a list of bytes
abbrev pub Bytes : List ℕ → Type 0
Bytes s = below 256 s ≡ true

pub bytes_after : (s t : List ℕ) → Bytes (s ++ t) → Bytes t
unfolding below
bytes_after [] t h = h
bytes_after (x ∷ s) t h = bytes_after s t (and_inv {a = ltb x 256} h).1

pub apart : {A : Type 0} {a : A} {t : List ℕ} {n : ℕ} {p : List ℕ} → bad n p ≡ got a t → ⊥
apart {A} {a} {t} {n} {p} e = let z : ◌≡◌ {A = ℕ} 0 1 = cc in omega arith

-- a reading that goes on, taken apart
pub then_got : {A B : Type 0} (g : Got A) (k : A → List ℕ → Got B) {b : B} {u : List ℕ} → and_then g k ≡ got b u → (a : A) × (t : List ℕ) × (g ≡ got a t) × (k a t ≡ got b u)
then_got (got a t) k e = (a, t, refl, e)
then_got (bad n p) k e = absurd (apart e)

pub need_got : {B : Type 0} (t : Bool) (n : ℕ) (here s : List ℕ) (k : Unit {0} → List ℕ → Got B) {b : B} {u : List ℕ}
    → and_then (need t n here s) k ≡ got b u → (t ≡ true) × (k tt s ≡ got b u)
need_got true n here s k e = (refl, e)
need_got false n here s k e = absurd (apart e)

-- what holds of what was given holds of what was got
pub carried : {A : Type 0} (P : A → List ℕ → Type 0) {a b : A} {t u : List ℕ} → got a t ≡ got b u → P a t → P b u
carried P {a} {b} {t} {u} e h = let p : a ≡ b = cc in let q : t ≡ u = cc in subst (λ (x : List ℕ). P b x) q (subst (λ (x : _). P x t) p h)

-- one thing read after another
pub joined : {s r : List ℕ} (x y t : List ℕ) → s ≡ x ++ r → r ≡ y ++ t → s ≡ (x ++ y) ++ t
joined {s} {r} x y t p q = p ∙ ap (λ (l : List ℕ). x ++ l) q ∙ sym (append_assoc x y t)

pub fields_back : (k : ℕ) (v here t : List ℕ) → length v ≡ k → fields k here (v ++ t) ≡ got v t
fields_back k v here t l = rw (le-leb k (length (v ++ t)) (omega (arith, length-append v t)), take_at v t k l, drop_at v t k l)

pub fields_only : (k : ℕ) (here s : List ℕ) {v t : List ℕ} → fields k here s ≡ got v t → (s ≡ v ++ t) × (length v ≡ k)
fields_only k here s {v} {t} e = go (leb k (length s)) refl e
  where
    go : (c : Bool) → leb k (length s) ≡ c → cond c (got (take k s) (drop k s)) (bad 1 here) ≡ got v t → (s ≡ v ++ t) × (length v ≡ k)
    go true l q = carried (λ w u. (s ≡ w ++ u) × (length w ≡ k)) q (sym (take-append-drop k s), length-take-le k s (leb-true k (length s) l))
    go false l q = absurd (apart q)

-- a list by its elements
abbrev pub tab : (ℕ → ℕ) → ℕ → List ℕ
tab f zero = []
tab f (suc n) = f 0 ∷ tab (λ i. f (suc i)) n

pub shape : (v : List ℕ) → v ≡ tab (field v) (length v)
shape [] = refl
shape (x ∷ v) = ap (λ (l : List ℕ). x ∷ l) (shape v)

-- the mark and the fixed fields
module _ (m : Mark) (k : ℕ) where
  pub opened_back : (v here t : List ℕ) → length v ≡ k → opened m k here (record_bytes m v ++ t) ≡ got v t
  unfolding opened
  opened_back v here t l =
      rw (le-leb 2 (length (record_bytes m v ++ t)) (omega arith), eq-eqb m.one m.one refl, eq-eqb m.two m.two refl) (fields_back k v here t l)

  pub opened_only : (here s : List ℕ) {v t : List ℕ} → opened m k here s ≡ got v t → (s ≡ record_bytes m (tab (field v) k) ++ t) × (v ≡ tab (field v) k)
  unfolding opened
  opened_only here s {v} {t} e =
      let z = then_got (fields 2 here s) _ e in
      let a = fields_only 2 here s z.2 in
      let y = need_got (is_mark m z.0) 2 here z.1 _ z.3 in
      let b = fields_only k here z.1 y.1 in
      let q = and_inv {a = eqb (field z.0 0) m.one} y.0 in
      let f : v ≡ tab (field v) k = shape v ∙ ap (tab (field v)) b.1 in
      let g : z.0 ≡ m.one ∷ m.two ∷ [] = shape z.0 ∙ ap (tab (field z.0)) a.1 ∙ rw (eqb-true (field z.0 0) m.one q.0, eqb-true (field z.0 1) m.two q.1) in
      (a.0 ∙ ap (λ (l : List ℕ). l ++ z.1) g ∙ ap (λ (l : List ℕ). m.one ∷ m.two ∷ l) (b.0 ∙ ap (λ (l : List ℕ). l ++ t) f), f)

-- a reader and an encoding that are each other's inverse, over the values that fit
pub record Right {A : Type 0} (ok : A → Bool) (enc : A → List ℕ) (r : Reader A) : Type 0 where
  pub back : (a : A) (here t : List ℕ) → ok a ≡ true → r here (enc a ++ t) ≡ got a t
  pub only : (here s : List ℕ) {a : A} {t : List ℕ} → Bytes s → r here s ≡ got a t → (s ≡ enc a ++ t) × (ok a ≡ true)

-- many records of a kind
module _ {A : Type 0} {ok : List A → A → Bool} {enc : A → List ℕ} {r : List A → Reader A} (right : (before : List A) → Right (ok before) enc (r before)) where
  pub each_back : (l before : List A) (here t : List ℕ) → every ok before l ≡ true → each r (length l) before here (bytes_of enc l ++ t) ≡ got l t
  unfolding each every bytes_of
  each_back [] before here t h = refl
  each_back (a ∷ l) before here t h =
      let z = and_inv {a = ok before a} h in
      rw (append_assoc (enc a) (bytes_of enc l) t, (right before).back a (enc a ++ (bytes_of enc l ++ t)) (bytes_of enc l ++ t) z.0, each_back l (a ∷ before) here t z.1)

  pub each_only : (n : ℕ) (before : List A) (here s : List ℕ) {l : List A} {t : List ℕ} → Bytes s → each r n before here s ≡ got l t
      → (s ≡ bytes_of enc l ++ t) × (length l ≡ n) × (every ok before l ≡ true)
  unfolding each every bytes_of
  each_only zero before here s {l} {t} h e = let p : [] ≡ l = cc in rw (← p) (cc, refl, refl)
  each_only (suc n) before here s {l} {t} h e =
      let z = then_got (r before s s) _ e in
      let a = (right before).only s s h z.2 in
      let y = then_got (each r n (z.0 ∷ before) here z.1) _ z.3 in
      let b = each_only n (z.0 ∷ before) here z.1 (bytes_after (enc z.0) z.1 (subst Bytes a.0 h)) y.2 in
      carried (λ k u. (s ≡ bytes_of enc k ++ u) × (length k ≡ suc n) × (every ok before k ≡ true)) y.3
      (joined (enc z.0) (bytes_of enc y.0) y.1 a.0 b.0, ap suc b.1, and_both a.1 b.2)

  -- the same, for what is read after them
  pub each_then : {B P : Type 0} (n : ℕ) (here s : List ℕ) (k : List A → List ℕ → Got B) {b : B} {v : List ℕ} → Bytes s → and_then (each r n [] here s) k ≡ got b v
      → ((l : List A) (u : List ℕ) → s ≡ bytes_of enc l ++ u → n ≡ length l → every ok [] l ≡ true → Bytes u → k l u ≡ got b v → P) → P
  each_then n here s k h e go =
      let z = then_got (each r n [] here s) k e in
      let o = each_only n [] here s h z.2 in
      go z.0 z.1 o.0 (sym o.1) o.2 (bytes_after (bytes_of enc z.0) z.1 (subst Bytes o.0 h)) z.3
