-- A site down: the other stations when a node is closed, with every lightpath that meets it: docs/SITES.md.
use Rattle.std.specs.Prelude.{ℕ, ◌^◌, ◌<◌, ◌≤◌, ◌≡◌, ◌↔◌, Bool, true, false, cond, not, eqb, length, set, Option, Some, None, Result, Ok, Err}
use Rattle.std.specs.Int.Count.{count_trailing_zeros}
use Rattle.book.specs.Book.{RouteBook, most_nodes, among, met_on}
use Rattle.book.specs.Bits.{has, station_set}
use Rattle.book.specs.Choice.{lightpath_at}
use Rattle.book.specs.Format.{Reading, good, refused}
use Rattle.judgement.specs.Network.{Joined, side_of}
use Rattle.judgement.specs.Judgement.{network, stations, first_of}
use Rattle.judgement.specs.Meaning.{Least}
use Rattle.judgement.specs.declared.Verdict.{Verdict}
use Rattle.judgement.specs.declared.Verdict.TheVariants as verdict
use Rattle.book.specs.Memory.{fault_number, refusal}
use Rattle.book.specs.declared.refusal.Refusal.{Refusal}
use Rattle.judgement.specs.declared.Down.{Down}

-- D1: lightpath k meets node v where its route does
abbrev pub meets : RouteBook → ℕ → ℕ → Bool
meets m v k = among v (met_on m.spans (lightpath_at m.lightpaths k).ends.from (lightpath_at m.lightpaths k).route.spans)

-- D2: which lightpaths are up with node v closed
abbrev pub spared : RouteBook → ℕ → ℕ → Bool
spared m v k = not (meets m v k)

-- D3: the stations left are those of the book with v no station; and the lowest-numbered of them
abbrev pub stations_left : RouteBook → ℕ → ℕ
stations_left m v = station_set (set m.nodes v false)

abbrev pub lowest_left : RouteBook → ℕ → ℕ
lowest_left m v = count_trailing_zeros most_nodes (stations_left m v)

-- D4: the side with node v closed, which is empty where no station is left
abbrev pub side_left : RouteBook → ℕ → ℕ
side_left m v = let d = side_of (network m) (spared m v) most_nodes (lowest_left m v) in cond (eqb (stations_left m v) 0) 0 d

-- D5: the others stand where the side holds all stations left
abbrev pub stands : RouteBook → ℕ → Bool
stands m v = eqb (side_left m v) (stations_left m v)

-- D6, D7: DOWN at the lowest node whose closing parts the others, else OK
abbrev pub down_at : ℕ → ℕ → Option Down
down_at v d = Some (record { node = v; side = d })

abbrev pub site_of : RouteBook → Option Down
site_of m = first_of (λ v. not (stands m v)) (λ v. down_at v (side_left m v)) None (length m.nodes) 0

-- What the answer means, without the search that finds it and without the side that is computed
module _ (m : RouteBook) where
  -- D3: i is a station other than v
  abbrev pub IsOther : ℕ → ℕ → Type 0
  IsOther v i = (has (stations m) i ≡ true) × (i ≡ v → ⊥)

  -- D5: with v closed any two of the others are joined; of none or one there is nothing to ask
  abbrev pub OthersJoined : ℕ → Type 0
  OthersJoined v = (i j : ℕ) → IsOther v i → IsOther v j → Joined (network m) (spared m v) i j

  abbrev pub IsDown : ℕ → Type 0
  IsDown v = OthersJoined v → ⊥

  -- D4: d is the set of what is joined to the lowest of the others
  pub record IsSide (v d : ℕ) : Type 0 where
    pub from : ℕ
    pub is_other : IsOther v from
    pub lowest : (i : ℕ) → IsOther v i → from ≤ i
    pub low : d < 2 ^ most_nodes
    pub holds : (i : ℕ) → (has d i ≡ true) ↔ Joined (network m) (spared m v) from i

  -- D6, D7: the two kinds, each with its own numbers
  pub data SiteGiven : Option Down → Type 0 where
    down : (v d : ℕ) → Least IsDown (length m.nodes) v → IsSide v d → SiteGiven (down_at v d)
    okay : ((v : ℕ) → v < length m.nodes → OthersJoined v) → SiteGiven None

  -- D10: three stations at least
  pub record Three : Type 0 where
    pub a : ℕ
    pub b : ℕ
    pub c : ℕ
    pub a_station : has (stations m) a ≡ true
    pub b_station : has (stations m) b ≡ true
    pub c_station : has (stations m) c ≡ true
    pub a_b : a ≡ b → ⊥
    pub a_c : a ≡ c → ⊥
    pub b_c : b ≡ c → ⊥

-- the verdicts that are left where three stations stand whichever node is closed
pub data OkayOrOver : Verdict → Type 0 where
  is_okay : OkayOrOver verdict.Okay
  is_over : (x l w : ℕ) → OkayOrOver (verdict.Over x l w)

-- D8: what the operation answers
abbrev pub closed_of : Reading → Result (Option Down) Refusal
closed_of (good m) = Ok (site_of m)
closed_of (refused k p) = Err (refusal k p)

-- D9: the numbers of an answer, for each of its cases; whatever it does not carry is 0
pub record SiteNumbers : Type 0 where
  pub number : ℕ
  pub place : ℕ
  pub node : ℕ
  pub side : ℕ

abbrev pub closed_numbers : Result (Option Down) Refusal → SiteNumbers
closed_numbers (Ok (Some s)) = record { number = 0; place = 0; node = s.node; side = s.side }
closed_numbers (Ok None) = record { number = 0; place = 0; node = 0; side = 0 }
closed_numbers (Err r) = record { number = fault_number r.fault; place = r.place; node = 0; side = 0 }
