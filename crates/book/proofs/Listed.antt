-- Where the alternatives of a lightpath stand: since alternatives stand by lightpath, those of lightpath k come right after those of the
-- lightpaths below k, so that the j-th of them is found by counting.
use Prim.Native.Nat.{ℕ, zero, suc, ◌+◌, ◌≤◌, ◌<◌}
use mathlib.Core.Path.{◌≡◌, refl}
use mathlib.Core.List.{List, [], ◌∷◌, map}
use mathlib.Core.Bool.{Bool, true, false, cond}
use native.Mathlib.Decide.{ℕ_discrete, dec_lt}
use native.Mathlib.Omega.{arith}
use lib.ListN.{length, get_or}
use lib.Dec.{eqb, ltb}
use borrow.Author.Tests.{eq-eqb, ne_eqb, lt-ltb, le-ltb}
use Rattle.book.specs.Book.{Span, Route, Ends, Alternative, RouteBook, well_formed, ends_of, count, every, lightpath_of, follows, alternative_fits}
use Rattle.book.specs.Choice.{owners, no_route, alternatives_of}
use Rattle.book.proofs.Tests.{and_inv}
use Rattle.book.proofs.Parts.{parts}
use Rattle.book.proofs.Gathered.{follows_inv}

abbrev pub route_of_alternative : Alternative → Route
route_of_alternative a = a.route

-- how many of a list are below k
unfoldable pub lower : ℕ → List ℕ → ℕ
lower k [] = 0
lower k (x ∷ xs) = cond (ltb x k) 1 0 + lower k xs

pub lower_none : (os : List ℕ) → lower 0 os ≡ 0
unfolding lower
lower_none [] = refl
lower_none (x ∷ os) = rw (le-ltb x 0 (omega arith)) (omega (arith, lower_none os))

pub lower_next : (k : ℕ) (os : List ℕ) → lower (suc k) os ≡ lower k os + count k os
unfolding lower count
lower_next k [] = refl
lower_next k (x ∷ os) = go (dec_lt x k) (ℕ_discrete x k) (lower_next k os)
  where
    go : Dec (x < k) → Dec (x ≡ k) → lower (suc k) os ≡ lower k os + count k os
        → cond (ltb x (suc k)) 1 0 + lower (suc k) os ≡ cond (ltb x k) 1 0 + lower k os + (cond (eqb x k) 1 0 + count k os)
    go (yes l) e ih = rw (lt-ltb x (suc k) (omega arith), lt-ltb x k l, ne_eqb x k (λ q. omega arith)) (omega (arith, ih))
    go (no l) (yes e) ih = rw (lt-ltb x (suc k) (omega arith), le-ltb x k (omega arith), eq-eqb x k e) (omega (arith, ih))
    go (no l) (no n) ih = rw (le-ltb x (suc k) (omega arith), le-ltb x k (omega arith), ne_eqb x k n) (omega (arith, ih))

pub lower_most : (k : ℕ) (os : List ℕ) → lower k os ≤ length os
unfolding lower
lower_most k [] = omega arith
lower_most k (x ∷ os) = go (ltb x k) (lower_most k os)
  where
    go : (t : Bool) → lower k os ≤ length os → cond t 1 0 + lower k os ≤ suc (length os)
    go true ih = omega arith
    go false ih = omega arith

-- numbers that never fall, and start no lower than lo
unfoldable Rising : ℕ → List ℕ → Type 0
Rising lo [] = Unit {0}
Rising lo (x ∷ xs) = (lo ≤ x) × Rising x xs

rising_low : (k lo : ℕ) (os : List ℕ) → Rising lo os → k ≤ lo → lower k os ≡ 0
unfolding Rising lower
rising_low k lo [] r l = refl
rising_low k lo (x ∷ os) r l = rw (le-ltb x k (omega (arith, r.0))) (omega (arith, rising_low k x os r.1 (omega (arith, r.0))))

rising_none : (k lo : ℕ) (os : List ℕ) → Rising lo os → k < lo → count k os ≡ 0
unfolding Rising count
rising_none k lo [] r l = refl
rising_none k lo (x ∷ os) r l = rw (ne_eqb x k (λ e. omega (arith, r.0))) (omega (arith, rising_none k x os r.1 (omega (arith, r.0))))

rises : (sps : List Span) (es : List Ends) (before als : List Alternative) → every (alternative_fits sps es) before als ≡ true → Rising (get_or (map lightpath_of before) 0 0) (map lightpath_of als)
unfolding every Rising
rises sps es before [] h = tt
rises sps es before (a ∷ als) h =
    let z = and_inv {a = alternative_fits sps es before a} h in
    ((follows_inv (length es) (map lightpath_of before) a.lightpath (and_inv {a = follows (length es) (map lightpath_of before) a.lightpath} z.0).0).last, rises sps es (a ∷ before) als z.1)

listed_rising : (k lo : ℕ) (als : List Alternative) → Rising lo (map lightpath_of als) → (j : ℕ) → j < count k (map lightpath_of als)
    → get_or (alternatives_of k als) j no_route ≡ get_or (map route_of_alternative als) (lower k (map lightpath_of als) + j) no_route
unfolding Rising lower count alternatives_of
listed_rising k lo [] r j l = absurd (omega arith)
listed_rising k lo (a ∷ als) r j l = go (dec_lt a.lightpath k) (ℕ_discrete a.lightpath k) (listed_rising k a.lightpath als r.1) j l
  where
    rs : List Route
    rs = map route_of_alternative als

    os : List ℕ
    os = map lightpath_of als

    low : ℕ
    low = lower k os

    go : Dec (a.lightpath < k) → Dec (a.lightpath ≡ k) → ((i : ℕ) → i < count k os → get_or (alternatives_of k als) i no_route ≡ get_or rs (low + i) no_route)
        → (i : ℕ) → i < cond (eqb a.lightpath k) 1 0 + count k os
        → get_or (cond (eqb a.lightpath k) (a.route ∷ alternatives_of k als) (alternatives_of k als)) i no_route ≡ get_or (a.route ∷ rs) (cond (ltb a.lightpath k) 1 0 + low + i) no_route
    go (yes d) e ih i u =
        let n = ne_eqb a.lightpath k (λ q. omega arith) in
        let at : 1 + low + i ≡ suc (low + i) = omega arith in
        rw (n, lt-ltb a.lightpath k d, at) (let v : i < 0 + count k os = rw n at u in ih i (omega arith))
    go (no d) (yes e) ih zero u =
        let at : 0 + low + 0 ≡ 0 = omega (arith, rising_low k a.lightpath os r.1 (omega arith)) in
        rw (eq-eqb a.lightpath k e, le-ltb a.lightpath k (omega arith), at)
    go (no d) (yes e) ih (suc i) u =
        let t = eq-eqb a.lightpath k e in
        let at : 0 + low + suc i ≡ suc (low + i) = omega arith in
        let v : suc i < 1 + count k os = rw t at u in
        rw (t, le-ltb a.lightpath k (omega arith), at) (ih i (omega arith))
    go (no d) (no n) ih i u =
        let v : i < 0 + count k os = rw (ne_eqb a.lightpath k n) at u in
        absurd (omega (arith, rising_none k a.lightpath os r.1 (omega arith)))

-- THE LAW, for a well-formed book
pub listed_at : (m : RouteBook) → well_formed m ≡ true → (k j : ℕ) → j < count k (owners m)
    → get_or (alternatives_of k m.alternatives) j no_route ≡ get_or (map route_of_alternative m.alternatives) (lower k (owners m) + j) no_route
listed_at m w k j l = listed_rising k 0 m.alternatives (rises m.spans (map ends_of m.lightpaths) [] m.alternatives (parts m w).alternatives) j l
