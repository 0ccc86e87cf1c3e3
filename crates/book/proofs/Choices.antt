-- THE CHOICES OF A BOOK: their number is 1 to 16,777,216, and numbers below it and valid rows of eight digits correspond one to one.
-- A well-formed book has at most seven alternatives for one lightpath, so that its sizes are those which the struct tells.
use Prim.Native.Nat.{ℕ, zero, suc, ◌+◌, ◌%◌, ◌^◌, ◌≤◌, ◌<◌, min}
use mathlib.Core.Path.{◌≡◌, refl, sym, ap, ap₂, ◌∙◌}
use mathlib.Core.List.{List, [], ◌∷◌, map}
use mathlib.Core.Bool.{true}
use native.Mathlib.Nat.{mod_self, mod-eq_of_lt}
use native.Mathlib.Omega.{arith}
use lib.ListN.{length, get_or, length-map}
use Rattle.book.specs.Book.{RouteBook, count, well_formed}
use Rattle.book.specs.Choice.{owners, movable, alternatives_each, sizes, valid, product, choices, number, digits, stepped, chosen_by}
use Rattle.book.specs.Moving.{movables_of, capped, sizes_in}
use Rattle.book.specs.declared.choice.Movables.{Movables}
use Rattle.book.proofs.Padded.{padded_long, padded_at}
use Rattle.book.proofs.Numbering.{Sizes, product_pos, number_of, number_below, digits_valid, digits_of, step_digits, step_number}
use Rattle.book.proofs.Digits.{product_most}
use Rattle.book.proofs.Gathered.{seven_most, eight_most}
use Rattle.book.proofs.Chosen.{sizes_above}

-- numbers of alternatives are at most seven each
map_most : (c : ℕ → ℕ) → ((k : ℕ) → c k ≤ 7) → (ks : List ℕ) (i : ℕ) → get_or (map c ks) i 0 ≤ 7
map_most c h [] i = omega arith
map_most c h (k ∷ ks) zero = h k
map_most c h (k ∷ ks) (suc i) = map_most c h ks i

capped_same : (ws : List ℕ) → ((i : ℕ) → get_or ws i 0 ≤ 7) → capped ws ≡ map suc ws
capped_same [] h = refl
capped_same (w ∷ ws) h = let e : min w 7 ≡ w = omega (arith, h 0) in ap₂ (λ (x : ℕ) (l : List ℕ). suc x ∷ l) e (capped_same ws (λ i. h (suc i)))

module _ (m : RouteBook) (w : well_formed m ≡ true) where
  listed_most : (i : ℕ) → get_or (alternatives_each m) i 0 ≤ 7
  listed_most i = omega (arith, padded_at 8 (map (λ k. count k (owners m)) (movable m)) i, map_most (λ k. count k (owners m)) (seven_most m w) (movable m) i)

  pub eight_digits : length (sizes m) ≡ 8
  eight_digits =
      length-map (alternatives_each m) suc ∙ padded_long 8 (map (λ k. count k (owners m)) (movable m)) (omega (arith, eight_most m w, length-map (movable m) (λ k. count k (owners m))))

  -- the struct tells the sizes
  pub sizes-in : sizes_in (movables_of m) ≡ sizes m
  sizes-in = capped_same (alternatives_each m) listed_most

  pub choices_some : 1 ≤ choices m
  choices_some = product_pos (sizes m) (sizes_above m)

  pub choices_most : choices m ≤ 16777216
  choices_most =
      let e : length (alternatives_each m) ≡ 8 = sym (length-map (alternatives_each m) suc) ∙ eight_digits in
      omega (arith, product_most (alternatives_each m), ap product sizes-in, ap (λ (n : ℕ). 8 ^ n) e)

-- from number to digits and back, and from digits to number and back
module _ (m : RouteBook) where
  pub choice_number : (n : ℕ) → n < choices m → (valid (sizes m) (digits (sizes m) n) ≡ true) × (number (sizes m) (digits (sizes m) n) ≡ n)
  choice_number n l = (digits_valid (sizes m) n (sizes_above m), number_of (sizes m) n (sizes_above m) l)

  pub number_choice : (ds : List ℕ) → valid (sizes m) ds ≡ true → (number (sizes m) ds < choices m) × (digits (sizes m) (number (sizes m) ds) ≡ ds)
  number_choice ds v = (number_below (sizes m) ds v, digits_of (sizes m) ds v)

  -- stepping adds one
  pub next_choice : (ds : List ℕ) → valid (sizes m) ds ≡ true → number (sizes m) ds + 1 < choices m
      → (valid (sizes m) (stepped (sizes m) ds) ≡ true) × (number (sizes m) (stepped (sizes m) ds) ≡ number (sizes m) ds + 1)
  next_choice ds v l = let s = step_number (sizes m) ds (sizes_above m) v in (s.0, s.1 ∙ mod-eq_of_lt l)

  -- and after the last comes choice 0, which has every digit 0
  pub last_choice : (ds : List ℕ) → valid (sizes m) ds ≡ true → number (sizes m) ds + 1 ≡ choices m → stepped (sizes m) ds ≡ digits (sizes m) 0
  last_choice ds v e =
      let s = step_number (sizes m) ds (sizes_above m) v in
      sym (digits_of (sizes m) (stepped (sizes m) ds) s.0) ∙ ap (digits (sizes m)) (s.1 ∙ ap (λ (n : ℕ). n % choices m) e ∙ mod_self (choices m))

-- the sizes that any struct tells are above 0, so stepping the digits of n gives those of n + 1
capped_above : (ws : List ℕ) → Sizes (capped ws)
unfolding Sizes
capped_above [] = tt
capped_above (w ∷ ws) = (omega arith, capped_above ws)

pub next_in : (w : Movables) (n : ℕ) → stepped (sizes_in w) (digits (sizes_in w) n) ≡ digits (sizes_in w) (n + 1)
next_in w n = step_digits (sizes_in w) n (capped_above w.more)

-- sizes and chosen routes come of the lightpaths and the alternatives alone
module _ (m m' : RouteBook) (lightpaths : m.lightpaths ≡ m'.lightpaths) (alternatives : m.alternatives ≡ m'.alternatives) where
  pub sizes_kept : sizes m ≡ sizes m'
  sizes_kept = rw (lightpaths, alternatives)

  pub routes_kept : (ds : List ℕ) → (chosen_by m ds).lightpaths ≡ (chosen_by m' ds).lightpaths
  routes_kept ds = rw (lightpaths, alternatives)
