-- A list kept in an array, and rows of lists: one more element is one store, one more row is one copy, and a look-up reads the list.
-- An array is its list and then noughts, so noughts at a row's end change nothing.
use Prim.Native.Nat.{ℕ, suc, ◌+◌, ◌-◌, ◌*◌, ◌≤◌, ◌<◌}
use mathlib.Core.Path.{◌≡◌, sym, ap, ◌∙◌}
use mathlib.Core.List.{List, [], ◌∷◌, ◌++◌, append_assoc, append-nil}
use native.Mathlib.Omega.{arith}
use native.Mathlib.Decide.{dec_lt}
use lib.ListN.{length, get_or, take, drop, set, replicate, length-append, length-replicate, get_or-replicate, replicate-append-replicate, get_or-eq_default, get_or-append}
use lib.Seq.{set-append_seam, get_or-append-add, paste, drop-append-add, take_at, drop_at, length-take-le}
use native.Mathlib.Nat.{mul-add, mul-one}
use Rattle.book.specs.Memory.{padded, rows}

pub padded_none : (n : ℕ) → padded n [] ≡ replicate n 0
unfolding padded
padded_none n = let z : n - 0 ≡ n = omega arith in ap (λ (k : ℕ). replicate k 0) z

pub padded_long : (n : ℕ) (xs : List ℕ) → length xs ≤ n → length (padded n xs) ≡ n
unfolding padded
padded_long n xs h = length-append xs _ ∙ omega (arith, length-replicate {A = ℕ} (n - length xs) 0)

-- one more element
pub padded_set : (n k : ℕ) (xs : List ℕ) (x : ℕ) → length xs ≡ k → k < n → set (padded n xs) k x ≡ padded n (xs ++ x ∷ [])
unfolding padded
padded_set n k xs x e h =
    let z : n - length xs ≡ suc (n - (length xs + 1)) = omega arith in
    let y : n - length (xs ++ x ∷ []) ≡ n - (length xs + 1) = omega (arith, length-append xs (x ∷ [])) in
    ap (λ (i : ℕ). set (xs ++ replicate (n - length xs) 0) i x) (sym e)
    ∙ ap (λ (i : ℕ). set (xs ++ replicate i 0) (length xs) x) z
    ∙ set-append_seam xs 0 (replicate (n - (length xs + 1)) 0) x
    ∙ sym (append_assoc xs (x ∷ []) (replicate (n - length (xs ++ x ∷ [])) 0) ∙ ap (λ (i : ℕ). xs ++ (x ∷ replicate i 0)) y)

-- an element, also past the list's end
pub padded_at : (n : ℕ) (xs : List ℕ) (k : ℕ) → get_or (padded n xs) k 0 ≡ get_or xs k 0
unfolding padded
padded_at n xs k = go (dec_lt k (length xs))
  where
    rest : (i : ℕ) → Dec (i < n - length xs) → ◌≡◌ {A = ℕ} (get_or (replicate (n - length xs) 0) i 0) 0
    rest i (yes y) = get_or-replicate (n - length xs) i 0 0 y
    rest i (no z) = get_or-eq_default (replicate (n - length xs) 0) 0 {n = i} (omega (arith, length-replicate {A = ℕ} (n - length xs) 0))

    go : Dec (k < length xs) → get_or (xs ++ replicate (n - length xs) 0) k 0 ≡ get_or xs k 0
    go (yes y) = get_or-append xs _ 0 k y
    go (no z) =
        let e : k ≡ length xs + (k - length xs) = omega arith in
        ap (λ (i : ℕ). get_or (xs ++ replicate (n - length xs) 0) i 0) e ∙ get_or-append-add xs _ (k - length xs) 0
        ∙ rest (k - length xs) (dec_lt (k - length xs) (n - length xs)) ∙ sym (get_or-eq_default xs 0 {n = k} (omega arith))

-- noughts at the end change nothing
padded_noughts : (n k : ℕ) (xs : List ℕ) → length xs + k ≤ n → padded n (xs ++ replicate k 0) ≡ padded n xs
unfolding padded
padded_noughts n k xs h =
    let e : n - length (xs ++ replicate k 0) ≡ n - length xs - k = omega (arith, length-append xs (replicate k 0), length-replicate {A = ℕ} k 0) in
    let f : k + (n - length xs - k) ≡ n - length xs = omega arith in
    let g : ◌≡◌ {A = List ℕ} (replicate k 0 ++ replicate (n - length xs - k) 0) (replicate (k + (n - length xs - k)) 0) = replicate-append-replicate k (n - length xs - k) 0 in
    rw (e, append_assoc xs (replicate k 0) (replicate (n - length xs - k) 0), g, f)

rows_snoc : (w : ℕ) (rs : List (List ℕ)) (r : List ℕ) → rows w (rs ++ r ∷ []) ≡ rows w rs ++ padded w r
unfolding rows
rows_snoc w [] r = append-nil (padded w r)
rows_snoc w (q ∷ rs) r = ap (λ (l : List ℕ). padded w q ++ l) (rows_snoc w rs r) ∙ sym (append_assoc (padded w q) (rows w rs) (padded w r))

-- noughts after n of them
noughts_after : (m n : ℕ) → n ≤ m → drop n (replicate m 0) ≡ replicate {A = ℕ} (m - n) 0
noughts_after m n h =
    let e : m ≡ n + (m - n) = omega arith in
    ap (λ (i : ℕ). drop n (replicate i 0)) e ∙ ap (drop n) (sym (replicate-append-replicate n (m - n) 0)) ∙ drop_at (replicate n 0) (replicate (m - n) 0) n (length-replicate {A = ℕ} n 0)

-- past the list's end there are noughts
noughts_first : (m w : ℕ) → w ≤ m → take w (replicate m 0) ≡ replicate {A = ℕ} w 0
noughts_first m w h =
    let e : m ≡ w + (m - w) = omega arith in
    ap (λ (i : ℕ). take w (replicate i 0)) e ∙ ap (take w) (sym (replicate-append-replicate w (m - w) 0)) ∙ take_at (replicate w 0) (replicate (m - w) 0) w (length-replicate {A = ℕ} w 0)

pub padded_past : (n w a : ℕ) (xs : List ℕ) → length xs ≤ a → a + w ≤ n → take w (drop a (padded n xs)) ≡ replicate w 0
unfolding padded
padded_past n w a xs h l =
    let e : a ≡ length xs + (a - length xs) = omega arith in
    ap (λ (i : ℕ). take w (drop i (xs ++ replicate (n - length xs) 0))) e
    ∙ ap (take w) (drop-append-add xs (replicate (n - length xs) 0) (a - length xs) ∙ noughts_after (n - length xs) (a - length xs) (omega arith))
    ∙ noughts_first (n - length xs - (a - length xs)) w (omega arith)

-- a list is copied in after the list that is there
padded_paste : (m k n : ℕ) (xs s : List ℕ) → length xs ≡ k → n ≤ length s → k + n ≤ m → paste (padded m xs) k s n ≡ padded m (xs ++ take n s)
unfolding padded
padded_paste m k n xs s e f h =
    let y : m - length (xs ++ take n s) ≡ m - length xs - n = omega (arith, length-append xs (take n s), length-take-le n s f) in
    let z : drop (k + n) (xs ++ replicate (m - length xs) 0) ≡ replicate (m - length xs - n) 0 = after in
    rw (z, take_at xs (replicate (m - length xs) 0) k e, y)
  where
    after : drop (k + n) (xs ++ replicate (m - length xs) 0) ≡ replicate (m - length xs - n) 0
    after = ap (λ (i : ℕ). drop (i + n) (xs ++ replicate (m - length xs) 0)) (sym e) ∙ drop-append-add xs (replicate (m - length xs) 0) n ∙ noughts_after (m - length xs) n (omega arith)

padded_is : (w n : ℕ) (r : List ℕ) → length r ≡ n → r ++ replicate (w - n) 0 ≡ padded w r
unfolding padded
padded_is w n r t = ap (λ (i : ℕ). r ++ replicate (w - i) 0) (sym t)

-- one more row is copied in
pub row_paste : (m w k n : ℕ) (rs : List (List ℕ)) (s : List ℕ) → length (rows w rs) ≡ w * k → n ≤ w → n ≤ length s → w * k + w ≤ m
    → paste (padded m (rows w rs)) (w * k) s n ≡ padded m (rows w (rs ++ take n s ∷ []))
row_paste m w k n rs s e f g h =
    let t : length (take n s) ≡ n = length-take-le n s g in
    let u : length (rows w rs ++ take n s) ≡ w * k + n = length-append (rows w rs) (take n s) ∙ omega (arith, e, t) in
    padded_paste m (w * k) n (rows w rs) s e g (omega arith)
    ∙ sym (padded_noughts m (w - n) (rows w rs ++ take n s) (omega arith))
    ∙ ap (padded m) (append_assoc (rows w rs) (take n s) (replicate (w - n) 0) ∙ ap (λ (l : List ℕ). rows w rs ++ l) (padded_is w n (take n s) t) ∙ sym (rows_snoc w rs (take n s)))

pub rows_more : (w k : ℕ) (rs : List (List ℕ)) (r : List ℕ) → length (rows w rs) ≡ w * k → length r ≤ w → length (rows w (rs ++ r ∷ [])) ≡ w * (k + 1)
rows_more w k rs r e f =
    let d : w * (k + 1) ≡ w * k + w = mul-add w k 1 ∙ omega (arith, mul-one w) in
    ap length (rows_snoc w rs r) ∙ length-append (rows w rs) (padded w r) ∙ omega (arith, e, d, padded_long w r f)
