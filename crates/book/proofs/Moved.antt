-- The loop that puts the chosen routes in their rows: after i movable lightpaths, moving the others gives the whole.
-- Rows are copied from the routes as they were read, so that no row that is still to be copied has been written over.
use Prim.Native.Nat.{ℕ, zero, suc, ◌+◌, ◌*◌, ◌≤◌, ◌<◌, min}
use mathlib.Core.Path.{◌≡◌, refl, sym, ap, ◌∙◌}
use mathlib.Core.List.{List, [], ◌∷◌}
use native.Mathlib.Numerals.{add-one}
use native.Mathlib.Omega.{arith}
use lib.ListN.{length, take}
use Rattle.std.proofs.lemmas.List.{take_min}
use Rattle.book.specs.declared.Book.{Book}
use Rattle.book.specs.declared.choice.Movables.{Movables}
use Rattle.book.specs.declared.choice.Choice.{Choice}
use Rattle.book.specs.Moving.{Rows, row_of, moved_row, moved, rows_in, with_rows_of, chosen_in}

-- moving the first n of the movable lightpaths: the next of them is moved, or there is none
moved_next : (listed r : Rows) (first n m : ℕ) {k x d : ℕ} {ks ls ws vs ds es : List ℕ} → ks ≡ k ∷ ls → ws ≡ x ∷ vs → ds ≡ d ∷ es → m + 1 ≡ n
    → moved listed first (take n ks) ws ds r ≡ moved listed (first + x) (take m ls) vs es (moved_row listed r (min k 95) (row_of (min k 95) first d))
unfolding moved
moved_next listed r first n m is_k is_x is_d is_n = rw (is_k, is_x, is_d, ← is_n, add-one m) refl

moved_all : (listed r : Rows) (first n : ℕ) (ks ws ds : List ℕ) → (0 < n → length ks ≡ 0) → moved listed first (take n ks) ws ds r ≡ r
unfolding moved
moved_all listed r first zero ks ws ds none = refl
moved_all listed r first (suc n) [] ws ds none = refl
moved_all listed r first (suc n) (k ∷ ks) ws ds none = let e : length (k ∷ ks) ≡ 0 = none (omega arith) in absurd (omega arith)

-- b is the book, and `new` is b with the rows as they now are; the movable lightpaths that are left are the first n of ks, with ws and ds
module _ (b : Book) (w : Movables) (c : Choice) where
  pub record Moving (new : Book) (first n : ℕ) (ks ws ds : List ℕ) : Type 0 where
    pub kept : new ≡ with_rows_of b (rows_in new)
    pub left : with_rows_of b (moved (rows_in b) first (take n ks) ws ds (rows_in new)) ≡ chosen_in b w c
    pub near : first + 255 * length ks ≤ 2295
    pub of_ws : length ws ≡ length ks
    pub of_ds : length ds ≡ length ks

  pub moving_next : {new : Book} {first n m k x d : ℕ} {ks ls ws vs ds es : List ℕ} → Moving new first n ks ws ds → ks ≡ k ∷ ls → ws ≡ x ∷ vs → ds ≡ d ∷ es → m + 1 ≡ n → x ≤ 255
      → Moving (with_rows_of new (moved_row (rows_in b) (rows_in new) (min k 95) (row_of (min k 95) first d))) (first + x) m ls vs es
  moving_next {new} {first} {n} {m} {k} {x} {d} {ks} {ls} {ws} {vs} {ds} {es} h is_k is_x is_d is_n low =
      let long : length ks ≡ suc (length ls) = ap length is_k in
      record {
        kept = ap (λ (z : Book). with_rows_of z (moved_row (rows_in b) (rows_in new) (min k 95) (row_of (min k 95) first d))) h.kept;
        left = ap (with_rows_of b) (sym (moved_next (rows_in b) (rows_in new) first n m is_k is_x is_d is_n)) ∙ h.left;
        near = omega (arith, h.near, long);
        of_ws = omega (arith, h.of_ws, long, ap length is_x);
        of_ds = omega (arith, h.of_ds, long, ap length is_d);
      }

  pub moving_end : {new : Book} {first n : ℕ} {ks ws ds : List ℕ} → Moving new first n ks ws ds → (0 < n → length ks ≡ 0) → new ≡ chosen_in b w c
  moving_end {new} {first} {n} {ks} {ws} {ds} h none = h.kept ∙ ap (with_rows_of b) (sym (moved_all (rows_in b) (rows_in new) first n ks ws ds none)) ∙ h.left
