-- The rows of a book: after one more route every array holds one more, and the words hold its spans; and each row is read back as it was put in.
-- LP and AL records both end with a route, so both loops cite the one law.
use Prim.Native.Nat.{ℕ, zero, suc, ◌+◌, ◌-◌, ◌*◌, ◌≤◌, ◌<◌}
use mathlib.Core.Path.{◌≡◌, refl, sym, ap, ◌∙◌}
use mathlib.Core.List.{List, [], ◌∷◌, ◌++◌, map, map-append, append_assoc}
use native.Mathlib.Omega.{arith}
use native.Mathlib.Decide.{dec_lt}
use native.Mathlib.Nat.{mul-zero, mul-suc, mul-le-mul_left}
use lib.ListN.{length, get_or, take, drop, set, replicate, length-map, length-append, length-replicate, get_or-eq_default}
use lib.Seq.{paste, take_all, take_at, take-take, take-append_seam, drop-append-add}
use Rattle.book.specs.Bits.{span_word}
use Rattle.book.specs.Memory.{padded, rows}
use Rattle.book.proofs.Padded.{padded_none, padded_long, padded_set, padded_past, row_paste, rows_more}

pub record RowsIn (rs : List (List ℕ)) (len route low high : List ℕ) : Type 0 where
  pub is_len : len ≡ padded 152 (map (λ (r : List ℕ). length r) rs)
  pub is_route : route ≡ padded 2432 (rows 16 rs)
  pub is_low : low ≡ padded 152 (map (span_word 0) rs)
  pub is_high : high ≡ padded 152 (map (span_word 1) rs)
  pub filled : length (rows 16 rs) ≡ 16 * length rs

pub rows_none : RowsIn [] (replicate 152 0) (replicate 2432 0) (replicate 152 0) (replicate 152 0)
unfolding rows
rows_none = record { is_len = sym (padded_none 152); is_route = sym (padded_none 2432); is_low = sym (padded_none 152); is_high = sym (padded_none 152); filled = refl }

-- one more in an array that has one number a route
one_more : (f : List ℕ → ℕ) (k : ℕ) (rs : List (List ℕ)) (r l : List ℕ) → length rs ≡ k → k < 152 → l ≡ padded 152 (map f rs) → set l k (f r) ≡ padded 152 (map f (rs ++ r ∷ []))
one_more f k rs r l e h c =
    ap (λ (x : List ℕ). set x k (f r)) c ∙ padded_set 152 k (map f rs) (f r) (length-map rs f ∙ e) h ∙ ap (padded 152) (sym (map-append f rs (r ∷ [])))

module _ {rs : List (List ℕ)} {len route low high : List ℕ} (h : RowsIn rs len route low high) where
  pub row_more : (k : ℕ) (r : List ℕ) → length rs ≡ k → k < 152 → length r ≤ 16
      → RowsIn (rs ++ r ∷ []) (set len k (length r)) (paste route (16 * k) r (length r)) (set low k (span_word 0 r)) (set high k (span_word 1 r))
  row_more k r e l short =
      let f : length (rows 16 rs) ≡ 16 * k = omega (arith, h.filled) in
      let n : length (rs ++ r ∷ []) ≡ k + 1 = omega (arith, length-append rs (r ∷ [])) in
      record {
        is_len = one_more (λ (r : List ℕ). length r) k rs r len e l h.is_len;
        is_route =
            ap (λ (x : List ℕ). paste x (16 * k) r (length r)) h.is_route ∙ row_paste 2432 16 k (length r) rs r f short (omega arith) (omega arith)
            ∙ ap (λ (x : List ℕ). padded 2432 (rows 16 (rs ++ x ∷ []))) (take_all (length r) r (omega arith));
        is_low = one_more (span_word 0) k rs r low e l h.is_low;
        is_high = one_more (span_word 1) k rs r high e l h.is_high;
        filled = rows_more 16 k rs r f short ∙ omega arith;
      }

-- a row takes w places or more
rows_reach : (w : ℕ) (rs : List (List ℕ)) → w * length rs ≤ length (rows w rs)
unfolding rows padded
rows_reach w [] = omega (arith, mul-zero w)
rows_reach w (r ∷ rs) =
    omega (arith, rows_reach w rs, mul-suc w (length rs), length-append (padded w r) (rows w rs), length-append r (replicate (w - length r) 0), length-replicate {A = ℕ} (w - length r) 0)

-- rows that are not too long fill w places each
pub rows_full : (w : ℕ) (rs : List (List ℕ)) → ((i : ℕ) → length (get_or rs i []) ≤ w) → length (rows w rs) ≡ w * length rs
unfolding rows
rows_full w [] short = omega (arith, mul-zero w)
rows_full w (r ∷ rs) short = omega (arith, length-append (padded w r) (rows w rs), padded_long w r (short 0), rows_full w rs (λ i. short (suc i)), mul-suc w (length rs))

-- a row is read back: the k-th of w places each, whatever stands behind the rows
row_at : (w k : ℕ) (rs : List (List ℕ)) (t : List ℕ) → ((i : ℕ) → length (get_or rs i []) ≤ w) → k < length rs → take w (drop (w * k) (rows w rs ++ t)) ≡ padded w (get_or rs k [])
unfolding rows
row_at w k [] t short l = absurd (omega arith)
row_at w zero (r ∷ rs) t short l =
    let z : w * 0 ≡ 0 = omega (arith, mul-zero w) in
    rw (z, append_assoc (padded w r) (rows w rs) t) (take_at (padded w r) (rows w rs ++ t) w (padded_long w r (short 0)))
row_at w (suc k) (r ∷ rs) t short l =
    let e : w * suc k ≡ length (padded w r) + w * k = omega (arith, mul-suc w k, padded_long w r (short 0)) in
    let f : drop (w * suc k) (padded w r ++ rows w rs ++ t) ≡ drop (w * k) (rows w rs ++ t) =
    ap (λ (i : ℕ). drop i (padded w r ++ rows w rs ++ t)) e ∙ ap (drop (length (padded w r) + w * k)) (append_assoc (padded w r) (rows w rs) t)
    ∙ drop-append-add (padded w r) (rows w rs ++ t) (w * k)
    in
    ap (take w) f ∙ row_at w k rs t (λ i. short (suc i)) (omega arith)

pub rows_held : (n w : ℕ) (rs : List (List ℕ)) → w * length rs ≤ length (padded n (rows w rs))
unfolding padded
rows_held n w rs = omega (arith, rows_reach w rs, length-append (rows w rs) (replicate (n - length (rows w rs)) 0))

-- the places of row k, also where no row is that far; and its route
pub row_places : (n w k : ℕ) (rs : List (List ℕ)) → ((i : ℕ) → length (get_or rs i []) ≤ w) → w * k + w ≤ n → take w (drop (w * k) (padded n (rows w rs))) ≡ padded w (get_or rs k [])
unfolding padded
row_places n w k rs short l = go (dec_lt k (length rs))
  where
    go : Dec (k < length rs) → take w (drop (w * k) (padded n (rows w rs))) ≡ padded w (get_or rs k [])
    go (yes q) = row_at w k rs (replicate (n - length (rows w rs)) 0) short q
    go (no q) =
        let far : w * length rs ≤ w * k = mul-le-mul_left w (omega arith) in
        padded_past n w (w * k) (rows w rs) (omega (arith, rows_full w rs short)) l
        ∙ sym (ap (padded w) (get_or-eq_default rs [] {n = k} (omega arith)) ∙ padded_none w)

pub row_held : (n w k : ℕ) (rs : List (List ℕ)) → ((i : ℕ) → length (get_or rs i []) ≤ w) → w * k + w ≤ n → take (length (get_or rs k [])) (drop (w * k) (padded n (rows w rs))) ≡ get_or rs k []
unfolding padded
row_held n w k rs short l =
    sym (take-take (length (get_or rs k [])) w (drop (w * k) (padded n (rows w rs))) (short k)) ∙ ap (take (length (get_or rs k []))) (row_places n w k rs short l)
    ∙ take-append_seam (get_or rs k []) (replicate (w - length (get_or rs k [])) 0)
