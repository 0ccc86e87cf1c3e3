-- The loops over the lightpaths of a book in memory: those left to write end where all of them end, and complete what is written so far.
-- So after the last turn the LP records are laid out whole, and as long as the first loop counted.
use Prim.Native.Nat.{ℕ, zero, suc, ◌+◌, ◌-◌, ◌*◌, ◌≤◌, ◌<◌}
use mathlib.Core.Path.{◌≡◌, refl, sym, ap, ◌∙◌, subst}
use mathlib.Core.List.{List, [], ◌∷◌, ◌++◌, map, map-append, append-nil, append_assoc}
use mathlib.Core.Bool.{true}
use native.Mathlib.Omega.{arith}
use lib.ListN.{length, get_or, take, drop, replicate, length-map, length-append, get_or-append, get_or-map}
use lib.Seq.{take_all, take_at}
use Rattle.book.specs.declared.Book.{Book}
use Rattle.book.specs.Book.{Lightpath, RouteBook, well_formed}
use Rattle.book.specs.Format.{LP, record_bytes, bytes_of, lp_bytes}
use Rattle.book.specs.Memory.{padded, routes_of, book_of, laid}
use Rattle.book.specs.Choice.{no_route, lightpath_at}
use Rattle.book.specs.Inside.{Held, lightpaths_len}
use Rattle.std.specs.List.{sum_by}
use Rattle.std.proofs.lemmas.List.Sums.{sum_by-cons}
use Rattle.book.proofs.Bounds.{counts}
use Rattle.book.proofs.Longest.{routes_short}
use Rattle.book.proofs.Rows.{row_held, rows_held}
use Rattle.book.proofs.Lightpaths.{column_at, route_of, alt_route}
use Rattle.book.proofs.Laid.{laid_none, laid_then}

abbrev pub no_lightpath : Lightpath
no_lightpath = record { ends = record { from = 0; to = 0 }; route = no_route }

within : {b : Book} (m : RouteBook) → b ≡ book_of m → {k : ℕ} → k < b.lightpaths → k < length m.lightpaths
within m e l = omega (arith, ap (λ (x : Book). x.lightpaths) e)

-- the record of lightpath k, as the arrays have it, with the route r
abbrev record_in : Book → ℕ → List ℕ → List ℕ
record_in b k r = record_bytes LP (get_or b.from k 0 ∷ get_or b.to k 0 ∷ length r ∷ r)

-- lightpath k of a book, and what the arrays say of it
module _ (m : RouteBook) where
  abbrev path : ℕ → Lightpath
  path k = lightpath_at m.lightpaths k

  module _ (k : ℕ) (l : k < length m.lightpaths) where
    pub route_here : get_or (routes_of m.lightpaths m.alternatives) k [] ≡ (path k).route.spans
    route_here =
        get_or-append (map route_of m.lightpaths) (map alt_route m.alternatives) [] k (omega (arith, length-map m.lightpaths route_of))
        ∙ get_or-map route_of m.lightpaths k no_lightpath

    pub len_here : get_or (book_of m).len k 0 ≡ length (path k).route.spans
    len_here = column_at 152 (λ (r : List ℕ). length r) (routes_of m.lightpaths m.alternatives) [] refl k ∙ ap length route_here

  module _ (fits : well_formed m ≡ true) where
    short_here : (k : ℕ) → k < length m.lightpaths → length (path k).route.spans ≤ 16
    short_here k l = subst (λ (r : List ℕ). length r ≤ 16) (route_here k l) (routes_short m fits k)

    pub row_here : (k : ℕ) → k < length m.lightpaths → take (get_or (book_of m).len k 0) (drop (16 * k) (book_of m).route) ≡ (path k).route.spans
    row_here k l =
        rw (len_here k l, ← route_here k l)
        (row_held 2432 16 k (routes_of m.lightpaths m.alternatives) (routes_short m fits) (omega (arith, counts m fits)))

    record_here : (k : ℕ) → k < length m.lightpaths → (r : List ℕ) → r ≡ take (get_or (book_of m).len k 0) (drop (16 * k) (book_of m).route)
        → record_in (book_of m) k r ≡ lp_bytes (path k)
    record_here k l r is =
        let e : r ≡ (path k).route.spans = is ∙ row_here k l in
        let from : get_or (book_of m).from k 0 ≡ (path k).ends.from = column_at 96 (λ (p : Lightpath). p.ends.from) m.lightpaths no_lightpath refl k in
        let to : get_or (book_of m).to k 0 ≡ (path k).ends.to = column_at 96 (λ (p : Lightpath). p.ends.to) m.lightpaths no_lightpath refl k in
        rw (e, from, to)

-- the lengths of the lightpaths' routes, with five bytes for each, are how many bytes their records take
records_long : (ps : List Lightpath) → length (bytes_of lp_bytes ps) ≡ sum_by (λ n. 5 + n) (map (λ (r : List ℕ). length r) (map route_of ps))
unfolding bytes_of
records_long [] = refl
records_long (p ∷ ps) =
    omega (
      arith,
      length-append (lp_bytes p) (bytes_of lp_bytes ps),
      records_long ps,
      sum_by-cons (λ n. 5 + n) (length p.route.spans) (map (λ (r : List ℕ). length r) (map route_of ps)),
    )

pub lightpaths_long : (m : RouteBook) → lightpaths_len (book_of m) ≡ length (bytes_of lp_bytes m.lightpaths)
unfolding padded
lightpaths_long m =
    let rs = map route_of m.lightpaths in
    let lens : List (List ℕ) → List ℕ = map (λ (r : List ℕ). length r) in
    let others = lens (map alt_route m.alternatives) in
    let noughts = replicate (152 - length (lens (routes_of m.lightpaths m.alternatives))) 0 in
    let cut : (book_of m).len ≡ lens rs ++ (others ++ noughts) =
    ap (λ (l : List ℕ). l ++ noughts) (map-append (λ (r : List ℕ). length r) rs (map alt_route m.alternatives)) ∙ append_assoc (lens rs) others noughts
    in
    let long : length (lens rs) ≡ length m.lightpaths = length-map rs (λ (r : List ℕ). length r) ∙ length-map m.lightpaths route_of in
    ap (sum_by (λ n. 5 + n)) (ap (take (length m.lightpaths)) cut ∙ take_at (lens rs) (others ++ noughts) (length m.lightpaths) long) ∙ sym (records_long m.lightpaths)

-- the records of the first k lightpaths, and that of lightpath k behind them
one_more : (ps : List Lightpath) (k : ℕ) → k < length ps → bytes_of lp_bytes (take (k + 1) ps) ≡ bytes_of lp_bytes (take k ps) ++ lp_bytes (lightpath_at ps k)
unfolding bytes_of
one_more [] k l = absurd (omega arith)
one_more (p ∷ ps) zero l = append-nil (lp_bytes p)
one_more (p ∷ ps) (suc k) l =
    let e : suc k + 1 ≡ suc (k + 1) = omega arith in
    ap (λ (n : ℕ). bytes_of lp_bytes (take n (p ∷ ps))) e ∙ ap (λ (x : List ℕ). lp_bytes p ++ x) (one_more ps k (omega arith))
    ∙ sym (append_assoc (lp_bytes p) (bytes_of lp_bytes (take k ps)) (lp_bytes (lightpath_at ps k)))

some_long : (ps : List Lightpath) (k : ℕ) → length (bytes_of lp_bytes (take k ps)) ≤ length (bytes_of lp_bytes ps)
unfolding bytes_of
some_long ps zero = omega arith
some_long [] (suc k) = omega arith
some_long (p ∷ ps) (suc k) = omega (arith, length-append (lp_bytes p) (bytes_of lp_bytes (take k ps)), length-append (lp_bytes p) (bytes_of lp_bytes ps), some_long ps k)

-- what Held says of the arrays
module _ {b : Book} (h : Held b) where
  pub held_few : b.lightpaths ≤ 96
  held_few = rw h.is (counts h.book h.fits).2

  pub held_short : (k : ℕ) → k < b.lightpaths → get_or b.len k 0 ≤ 16
  held_short k l = let w = within h.book h.is l in rw (h.is, len_here h.book k w) (short_here h.book h.fits k w)

-- the records of the first k lightpaths are laid from the place `at` on, up to `place`, in whichever book is held
module _ (b : Book) (d : List ℕ) (at : ℕ) where
  pub record Put (out : List ℕ) (k place : ℕ) (m : RouteBook) : Type 0 where
    pub reached : place ≡ at + length (bytes_of lp_bytes (take k m.lightpaths))
    pub laid_so_far : out ≡ laid d at (bytes_of lp_bytes (take k m.lightpaths))

  abbrev pub Putting : List ℕ → ℕ → ℕ → Type 0
  Putting out k place = (m : RouteBook) → b ≡ book_of m → well_formed m ≡ true → Put out k place m

  pub putting_start : Putting d 0 at
  unfolding bytes_of
  putting_start m e f = record { reached = omega arith; laid_so_far = sym (laid_none d at) }

  module _ {out : List ℕ} {k place : ℕ} (now : Putting out k place) (l : k < b.lightpaths) (room : at + lightpaths_len b ≤ length d) where
    room_here : (m : RouteBook) → b ≡ book_of m → well_formed m ≡ true → (place + (5 + get_or b.len k 0) ≤ length d) × (get_or b.len k 0 ≡ length (path m k).route.spans)
    room_here m e f =
        let w = within m e l in
        let n : get_or b.len k 0 ≡ length (path m k).route.spans = ap (λ (x : Book). get_or x.len k 0) e ∙ len_here m k w in
        let r : at + length (bytes_of lp_bytes m.lightpaths) ≤ length d = subst (λ (n : ℕ). at + n ≤ length d) (ap lightpaths_len e ∙ lightpaths_long m) room in
        (omega (arith, r, n, (now m e f).reached, ap length (one_more m.lightpaths k w), length-append (bytes_of lp_bytes (take k m.lightpaths)) (lp_bytes (path m k)), some_long m.lightpaths (k + 1)), n)

    pub putting_room : Held b → place + (5 + get_or b.len k 0) ≤ length d
    putting_room h = (room_here h.book h.is h.fits).0

    pub putting_next : (r : List ℕ) → r ≡ take (get_or b.len k 0) (drop (16 * k) b.route) → Putting (laid out place (record_in b k r)) (k + 1) (place + (5 + length r))
    putting_next r is m e f =
        let w = within m e l in
        let p = lp_bytes (path m k) in
        let before = bytes_of lp_bytes (take k m.lightpaths) in
        let more = one_more m.lightpaths k w in
        let bytes : record_in b k r ≡ p =
        ap (λ (x : Book). record_in x k r) e
        ∙ record_here m f k w r (is ∙ ap (λ (x : Book). take (get_or x.len k 0) (drop (16 * k) x.route)) e)
        in
        let reached = (now m e f).reached in
        let room : at + length before ≤ length d = omega (arith, (room_here m e f).0, reached) in
        record {
          reached = omega (arith, reached, ap length bytes, ap length more, length-append before p);
          laid_so_far = (λ i. laid ((now m e f).laid_so_far i) (reached i) (bytes i)) ∙ laid_then d at before p room ∙ ap (laid d at) (sym more);
        }
