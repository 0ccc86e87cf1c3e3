-- Every refusal of the reader has a number of the table, 1 to 10, whatever the numbers in the list that it reads.
-- Each step is refused with a number that stands in it, and what is made of steps is refused where one of them is.
use Rattle.std.specs.Prelude.{ℕ, zero, suc, ◌≤◌, ◌≡◌, List, [], ◌∷◌, map, Bool, true, false, cond, length, take, drop, leb}
use native.Mathlib.Omega.{arith}
use Rattle.book.specs.Reader.{Got, got, bad, Reader, and_then, need, need_from, each, fields, Mark, is_mark, opened}
use Rattle.book.specs.Book.{Span, Ends, Alternative, RouteBook, some, below, counts_fit, span_ends, lightpath_ends, length_fits, route_walks, follows, lightpath_of, ends_of, ends_at}
use Rattle.book.specs.Format.{EN, HD, ND, SP, LP, AL, field, from_high, from_stray, hd, nd, sp, route, lp, al, at_end, nothing, book, refused, placed, reading}
use Rattle.book.proofs.Faults.{number_back}
use Rattle.book.specs.Memory.{fault_number, fault_of}

pub record InTable (n : ℕ) : Type 0 where
  pub above : 1 ≤ n
  pub most : n ≤ 10

data Tabled {A : Type 0} : Got A → Type 0 where
  goes_on : {a : A} {t : List ℕ} → Tabled (got a t)
  is_refused : {n : ℕ} {p : List ℕ} → InTable n → Tabled (bad n p)

tabled_then : {A B : Type 0} (g : Got A) (k : A → List ℕ → Got B) → Tabled g → ((a : A) (t : List ℕ) → Tabled (k a t)) → Tabled (and_then g k)
tabled_then (got a t) k h l = l a t
tabled_then (bad n p) k (is_refused h) l = is_refused h

tabled_need : (t : Bool) (n : ℕ) (here s : List ℕ) → InTable n → Tabled (need t n here s)
tabled_need true n here s h = goes_on
tabled_need false n here s h = is_refused h

tabled_need_from : (t : Bool) (n : ℕ) (q here s : List ℕ) → InTable n → Tabled (need_from t n q here s)
tabled_need_from true n q here s h = goes_on
tabled_need_from false n q here s h = is_refused h

tabled_fields : (k : ℕ) (here s : List ℕ) → Tabled (fields k here s)
tabled_fields k here s = go (leb k (length s))
  where
    go : (t : Bool) → Tabled (cond t (got (take k s) (drop k s)) (bad 1 here))
    go true = goes_on
    go false = is_refused (record { above = omega arith; most = omega arith })

tabled_opened : (m : Mark) (k : ℕ) (here s : List ℕ) → Tabled (opened m k here s)
unfolding opened
tabled_opened m k here s =
    tabled_then (fields 2 here s) _ (tabled_fields 2 here s) (λ b t.
    tabled_then (need (is_mark m b) 2 here t) _ (tabled_need (is_mark m b) 2 here t (record { above = omega arith; most = omega arith })) (λ u v. tabled_fields k here v))

tabled_each : {A : Type 0} (r : List A → Reader A) → ((before : List A) (s : List ℕ) → Tabled (r before s s)) → (n : ℕ) (before : List A) (here s : List ℕ) → Tabled (each r n before here s)
unfolding each
tabled_each r h zero before here s = goes_on
tabled_each r h (suc n) before here s = tabled_then (r before s s) _ (h before s) (λ a t. tabled_then (each r n (a ∷ before) here t) _ (tabled_each r h n (a ∷ before) here t) (λ l u. goes_on))

tabled_hd : (s : List ℕ) → Tabled (hd s s)
tabled_hd s =
    tabled_then (opened HD 4 s s) _ (tabled_opened HD 4 s s) (λ c t.
    tabled_then (need (counts_fit (field c 0) (field c 1) (field c 2) (field c 3)) 3 s t) _ (tabled_need (counts_fit (field c 0) (field c 1) (field c 2) (field c 3)) 3 s t (record { above = omega arith; most = omega arith })) (λ u v. goes_on))

tabled_nd : (s : List ℕ) → Tabled (nd s s)
tabled_nd s =
    tabled_then (opened ND 1 s s) _ (tabled_opened ND 1 s s) (λ c t.
    tabled_then (need (leb (field c 0) 1) 4 s t) _ (tabled_need (leb (field c 0) 1) 4 s t (record { above = omega arith; most = omega arith })) (λ u v. goes_on))

tabled_sp : (n : ℕ) (s : List ℕ) → Tabled (sp n s s)
tabled_sp n s =
    tabled_then (opened SP 3 s s) _ (tabled_opened SP 3 s s) (λ c t.
    tabled_then (need (span_ends n (field c 0) (field c 1)) 4 s t) _ (tabled_need (span_ends n (field c 0) (field c 1)) 4 s t (record { above = omega arith; most = omega arith })) (λ u v. goes_on))

tabled_route : (sps : List Span) (e : Ends) (len : ℕ) (here s : List ℕ) → Tabled (route sps e len here s)
tabled_route sps e len here s =
    tabled_then (need (length_fits len) 6 here s) _ (tabled_need (length_fits len) 6 here s (record { above = omega arith; most = omega arith })) (λ o t.
    tabled_then (fields len here t) _ (tabled_fields len here t) (λ r u.
    tabled_then (need_from (below (length sps) r) 5 (from_high (length sps) r) here u) _ (tabled_need_from (below (length sps) r) 5 (from_high (length sps) r) here u (record { above = omega arith; most = omega arith })) (λ p v.
    tabled_then (need_from (route_walks sps e r) 7 (from_stray sps (e.from ∷ []) e.from r) here v) _ (tabled_need_from (route_walks sps e r) 7 (from_stray sps (e.from ∷ []) e.from r) here v (record { above = omega arith; most = omega arith })) (λ q w. goes_on))))

tabled_lp : (ns : List Bool) (sps : List Span) (s : List ℕ) → Tabled (lp ns sps s s)
tabled_lp ns sps s =
    tabled_then (opened LP 3 s s) _ (tabled_opened LP 3 s s) (λ v t.
    tabled_then (need (lightpath_ends ns (record { from = field v 0; to = field v 1 })) 4 s t) _ (tabled_need (lightpath_ends ns (record { from = field v 0; to = field v 1 })) 4 s t (record { above = omega arith; most = omega arith })) (λ o u.
    tabled_then (route sps (record { from = field v 0; to = field v 1 }) (field v 2) s u) _ (tabled_route sps _ (field v 2) s u) (λ r w. goes_on)))

tabled_al : (sps : List Span) (es : List Ends) (before : List Alternative) (s : List ℕ) → Tabled (al sps es before s s)
tabled_al sps es before s =
    tabled_then (opened AL 2 s s) _ (tabled_opened AL 2 s s) (λ v t.
    tabled_then (need (follows (length es) (map lightpath_of before) (field v 0)) 8 s t) _ (tabled_need (follows (length es) (map lightpath_of before) (field v 0)) 8 s t (record { above = omega arith; most = omega arith })) (λ o u.
    tabled_then (route sps (ends_at es (field v 0)) (field v 1) s u) _ (tabled_route sps _ (field v 1) s u) (λ r w. goes_on)))

tabled_book : (s : List ℕ) → Tabled (book s s)
unfolding book
tabled_book s =
    tabled_then (hd s s) _ (tabled_hd s) (λ c t.
    tabled_then (each (λ before. nd) (field c 0) [] s t) _ (tabled_each (λ before. nd) (λ before u. tabled_nd u) (field c 0) [] s t) (λ ns u.
    tabled_then (need (some ns) 10 u u) _ (tabled_need (some ns) 10 u u (record { above = omega arith; most = omega arith })) (λ o v.
    tabled_then (each (λ before. sp (length ns)) (field c 1) [] s v) _ (tabled_each (λ before. sp (length ns)) (λ before w. tabled_sp (length ns) w) (field c 1) [] s v) (λ sps w.
    tabled_then (each (λ before. lp ns sps) (field c 2) [] s w) _ (tabled_each (λ before. lp ns sps) (λ before x. tabled_lp ns sps x) (field c 2) [] s w) (λ lps x.
    tabled_then (each (al sps (map ends_of lps)) (field c 3) [] s x) _ (tabled_each (al sps (map ends_of lps)) (λ before y. tabled_al sps (map ends_of lps) before y) (field c 3) [] s x) (λ als y.
    tabled_then (opened EN 0 y y) _ (tabled_opened EN 0 y y) (λ e z.
    tabled_then (nothing z z) _ (tabled_need (at_end z) 9 z z (record { above = omega arith; most = omega arith })) (λ q r. goes_on))))))))

-- THE NUMBERS of what is refused
pub refused_tabled : (b : List ℕ) {n p : ℕ} → reading b ≡ refused n p → InTable n
unfolding reading
refused_tabled b {n} {p} e = go (book b b) (tabled_book b) e
  where
    go : (g : Got RouteBook) → Tabled g → placed b g ≡ refused n p → InTable n
    go (got m t) h q = let z : ◌≡◌ {A = ℕ} 0 1 = cc in absurd (omega arith)
    go (bad k r) (is_refused h) q = let same : k ≡ n = cc in rw (← same) h

-- so the fault that a refusal names has its number
pub refused_number : (b : List ℕ) {n p : ℕ} → reading b ≡ refused n p → fault_number (fault_of n) ≡ n
refused_number b {n} e = let t = refused_tabled b e in number_back n t.above (omega (arith, t.most))
