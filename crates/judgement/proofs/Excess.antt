-- LOADS AGAINST LIMITS: what the arrays say of a span is what the book says of it, for the first span over its limit and for the sum of all excess.
-- That sum is at most 1,536: all loads together are no more than the places of all routes, and those are at most 96 routes of at most 16 places.
use Prim.Native.Nat.{ℕ, ◌-◌, ◌*◌, ◌≤◌}
use mathlib.Core.Path.{◌≡◌, refl, ap, ap₂, ◌∙◌}
use mathlib.Core.List.{List}
use mathlib.Core.Bool.{Bool, true}
use native.Mathlib.Nat.{le_trans, sub-le}
use native.Mathlib.Omega.{arith}
use lib.ListN.{length, get_or}
use lib.Dec.{ltb}
use Rattle.book.specs.declared.Book.{Book}
use Rattle.book.specs.Book.{Span, RouteBook, well_formed}
use Rattle.book.specs.Memory.{book_of}
use Rattle.book.specs.Choice.{lightpath_at}
use Rattle.book.proofs.Bounds.{counts}
use Rattle.book.proofs.Lightpaths.{column_at}
use Rattle.std.specs.Prelude.{Option, None}
use Rattle.judgement.specs.declared.load.Overload.{Overload}
use Rattle.judgement.specs.Judgement.{rides, sum, one, load, limit, first_of, score_fc}
use Rattle.judgement.specs.Arrays.{load_in, limit_in}
use Rattle.judgement.specs.Holding.{Held, Loads, is_over, over_at, over_in}
use Rattle.judgement.proofs.First.{first_alike}
use Rattle.judgement.proofs.Sums.{sum_alike, sum_le, sum_longer, sum_most, sum_swap, among_most}
use Rattle.judgement.proofs.Loads.{route_short, load-in}

-- the limits that the arrays have
pub limit-in : (m : RouteBook) (x : ℕ) → limit_in (book_of m) x ≡ limit m x
limit-in m x = column_at 128 (λ (s : Span). s.limit) m.spans (record { left = 0; right = 0; limit = 0 }) refl x

-- THE BOUND, and what it rests on
module _ (m : RouteBook) (fits : well_formed m ≡ true) where
  pub loads_most : (n : ℕ) → sum (λ x. load m x) n ≤ 16 * length m.lightpaths
  loads_most n =
      let p = length m.lightpaths in
      omega (
        arith,
        sum_swap (λ x k. one (rides m x k)) n p,
        sum_most 16 (λ k. sum (λ x. one (rides m x k)) n) p (λ k l. le_trans (among_most (lightpath_at m.lightpaths k).route.spans n) (route_short m fits k l)),
      )

  pub excess_most : score_fc m ≤ 1536
  excess_most =
      let n = length m.spans in
      omega (arith, sum_le (λ x. load m x - limit m x) (λ x. load m x) n (λ x l. sub-le (load m x) (limit m x)), loads_most n, counts m fits)

-- what the loads say of span x
module _ (b : Book) (loads : List ℕ) where
  abbrev pub over_by : ℕ → Bool
  over_by x = ltb (limit_in b x) (get_or loads x 0)

  abbrev pub at_by : ℕ → Option Overload
  at_by x = over_at x (get_or loads x 0) (limit_in b x)

  abbrev pub excess_in : ℕ → ℕ
  excess_in x = get_or loads x 0 - limit_in b x

  module _ (all : Loads b loads) where
    pub over_is : b.spans ≤ 128 → first_of over_by at_by None b.spans 0 ≡ first_of (is_over b) (over_in b) None b.spans 0
    over_is few = first_alike over_by (is_over b) at_by (over_in b) None b.spans 0
        (λ x p q. let e = all.each x (omega arith) in (ap (ltb (limit_in b x)) e, ap (λ (l : ℕ). over_at x l (limit_in b x)) e))

    module _ (m : RouteBook) (is : b ≡ book_of m) (fits : well_formed m ≡ true) where
      pub excess_is : sum excess_in b.spans ≡ score_fc m
      excess_is =
          let n : b.spans ≡ length m.spans = ap (λ (y : Book). y.spans) is in
          sum_alike excess_in (λ x. load m x - limit m x) b.spans
          (λ x l. ap₂ (λ (y z : ℕ). y - z) (all.each x (omega (arith, counts m fits)) ∙ ap (λ (y : Book). load_in y x) is ∙ load-in m fits x) (ap (λ (y : Book). limit_in y x) is ∙ limit-in m x))
          ∙ ap (sum (λ x. load m x - limit m x)) n

  pub excess_low : Held b → Loads b loads → (k : ℕ) → k ≤ b.spans → sum excess_in k ≤ 1536
  excess_low h all k l = omega (arith, sum_longer excess_in k b.spans l, excess_is all h.book h.is h.fits, excess_most h.book h.fits)
