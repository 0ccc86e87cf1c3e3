-- One step of a reading, as the code makes it and as the reader has it: what is refused in a part is refused in the whole, and what a part gave
-- is handed on. Every record starts alike, so the mark and the fixed fields are dealt with once, test by test.
use Prim.Native.Nat.{ℕ, ◌+◌, ◌-◌, ◌≤◌, ◌<◌}
use mathlib.Core.Path.{◌≡◌, refl, sym, ap, ◌∙◌, subst}
use mathlib.Core.List.{List, [], ◌∷◌}
use mathlib.Core.Bool.{Bool, true, false, ◌&&◌, false≢true}
use native.Mathlib.Omega.{arith}
use lib.ListN.{length, take, drop, length-drop}
use lib.Seq.{drop-drop, take_all}
use lib.Dec.{eqb}
use borrow.Author.Tests.{le-leb, lt-leb, eqb-true, eq-eqb, ne_eqb}
use Rattle.std.specs.Prelude.{slice_index}
use Rattle.std.specs.List.{starts_with}
use Rattle.book.specs.declared.refusal.Fault.{Fault}
use Rattle.book.specs.declared.refusal.Fault.TheVariants.{CutShort, WrongMark}
use Rattle.book.specs.declared.refusal.Refusal.{Refusal}
use Rattle.book.specs.Memory.{fault_number}
use Rattle.book.specs.Reader.{Got, got, bad, and_then, fields, Mark, is_mark, opened}
use Rattle.book.specs.Inside.{Came, Halted}

module _ {A B : Type 0} {s : List ℕ} {g : Got A} (k : A → List ℕ → Got B) where
  pub halted_then : {r : Refusal} → Halted s g r → Halted s (and_then g k) r
  halted_then h = record { is = ap (λ (x : Got A). and_then x k) h.is; within = h.within }

-- the bytes from `at` on, as a function lends them; and n bytes from there
pub part : (s : List ℕ) (at : ℕ) → take (length s - at) (drop at s) ≡ drop at s
part s at = take_all (length s - at) (drop at s) (omega (arith, length-drop at s))

pub lent : (s : List ℕ) (a n : ℕ) → take (a + n - a) (drop a s) ≡ take n (drop a s)
lent s a n = let e : a + n - a ≡ n = omega arith in rw e

-- whether bytes begin with the two of a mark w, as the code tests it and as the reader does
eqb_turned : (a b : ℕ) → eqb a b ≡ eqb b a
eqb_turned a b = go (eqb a b) refl
  where
    go : (t : Bool) → eqb a b ≡ t → eqb a b ≡ eqb b a
    go true e = e ∙ sym (eq-eqb b a (sym (eqb-true a b e)))
    go false e = e ∙ sym (ne_eqb b a (λ q. false≢true (sym e ∙ eq-eqb a b (sym q))))

both : (a b : Bool) → (a && (b && true)) ≡ (a && b)
both true true = refl
both true false = refl
both false b = refl

abbrev pub mark_of : List ℕ → Mark
mark_of w = record { one = slice_index w 0; two = slice_index w 1 }

pub begins : (w d : List ℕ) → length w ≡ 2 → 2 ≤ length d → starts_with eqb d w ≡ is_mark (mark_of w) (take 2 d)
begins (a ∷ b ∷ []) (x ∷ y ∷ d) e l = rw (eqb_turned a x, eqb_turned b y) (both (eqb x a) (eqb y b))
begins (a ∷ b ∷ []) (x ∷ []) e l = absurd (omega arith)
begins (a ∷ b ∷ []) [] e l = absurd (omega arith)
begins (a ∷ b ∷ c ∷ w) d e l = absurd (omega arith)
begins (a ∷ []) d e l = absurd (omega arith)
begins [] d e l = absurd (omega arith)

-- the mark and the k fixed fields of the record at `at`, from which on d is lent
module _ (w : List ℕ) (k : ℕ) (s : List ℕ) (at : ℕ) (here : at ≤ length s) where
  abbrev m : Mark
  m = mark_of w

  abbrev d : List ℕ
  d = take (length s - at) (drop at s)

  abbrev Refused : Fault → Type 0
  Refused f = Halted s (opened m k (drop at s) (drop at s)) (record { fault = f; place = at })

  refused : (f : Fault) → opened m k d d ≡ bad (fault_number f) d → Refused f
  refused f h = record { is = subst (λ (x : List ℕ). opened m k x x ≡ bad (fault_number f) x) (part s at) h; within = here }

  pub opened_short : length d < 2 → Refused CutShort
  unfolding opened
  opened_short l = refused CutShort (rw (lt-leb 2 (length d) l))

  module _ (two : length w ≡ 2) (l : 2 ≤ length d) where
    pub opened_unlike : false ≡ starts_with eqb d w → Refused WrongMark
    unfolding opened
    opened_unlike h = refused WrongMark (rw (le-leb 2 (length d) l, sym (h ∙ begins w d two l)))

    module _ (h : true ≡ starts_with eqb d w) where
      opened_marked : opened m k d d ≡ fields k d (drop 2 d)
      unfolding opened
      opened_marked = rw (le-leb 2 (length d) l, sym (h ∙ begins w d two l))

      pub opened_torn : length d < 2 + k → Refused CutShort
      opened_torn h = refused CutShort (opened_marked ∙ rw (lt-leb k (length (drop 2 d)) (omega (arith, length-drop 2 d))))

      pub opened_whole : 2 + k ≤ length d → Came s (opened m k (drop at s) (drop at s)) (take (2 + k - 2) (drop 2 d)) (at + (2 + k))
      opened_whole h =
          let n : k ≤ length (drop 2 d) = omega (arith, length-drop 2 d) in
          let t : opened m k d d ≡ got (take (2 + k - 2) (drop 2 d)) (drop (2 + k) d) =
          opened_marked ∙ rw (le-leb k (length (drop 2 d)) n, lent d 2 k, drop-drop k 2 d)
          in
          let long : length d ≡ length s - at = rw (part s at) (length-drop at s) in
          record {
            is = subst (λ (x : List ℕ). opened m k x x ≡ got (take (2 + k - 2) (drop 2 d)) (drop (2 + k) x)) (part s at) t ∙ ap (got (take (2 + k - 2) (drop 2 d))) (drop-drop (2 + k) at s);
            within = omega arith;
          }
