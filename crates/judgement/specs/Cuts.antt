-- Survivability in two forms, docs/JUDGEMENT.md: the joined form, and the cut-set form, where every two-sided division of the stations is crossed and no
-- span carries all that cross it. A division that nothing crosses belongs to SPLIT.
use Rattle.std.specs.Prelude.{ℕ, ◌<◌, ◌≡◌, Bool, true, false, length}
use Rattle.book.specs.Book.{RouteBook}
use Rattle.book.specs.Bits.{has}
use Rattle.judgement.specs.Network.{Joined}
use Rattle.judgement.specs.Judgement.{rides, network, without, all_up, stations, lowest}

module _ (m : RouteBook) where
  -- J10: every station is joined to the lowest
  abbrev pub AllJoined : (ℕ → Bool) → Type 0
  AllJoined up = (i : ℕ) → has (stations m) i ≡ true → Joined (network m) up (lowest m) i

  -- J26: the joined form: the stations are joined when all is up, and with any one span out
  pub record Survives : Type 0 where
    pub intact : AllJoined all_up
    pub each : (x : ℕ) → x < length m.spans → AllJoined (without m x)

  -- J16: a division of the stations: one is in A, and one is not
  pub record Divides (A : ℕ → Bool) : Type 0 where
    pub inside : ℕ
    pub outside : ℕ
    pub inside_station : has (stations m) inside ≡ true
    pub outside_station : has (stations m) outside ≡ true
    pub is_in : A inside ≡ true
    pub is_out : A outside ≡ false

  -- J16: lightpath k crosses it: its ends are on two sides
  abbrev pub Crosses : (ℕ → Bool) → ℕ → Type 0
  Crosses A k = (k < length m.lightpaths) × (A ((network m).from k) ≡ A ((network m).to k) → ⊥)

  -- J17: span x carries a whole cut set: all that cross some division ride it
  pub record Carries (x : ℕ) : Type 0 where
    pub part : ℕ → Bool
    pub divides : Divides part
    pub all_ride : (k : ℕ) → Crosses part k → rides m x k ≡ true

  -- J18: the cut-set form: every division is crossed, and no span carries all that cross it
  pub record CutForm : Type 0 where
    pub crossed : (A : ℕ → Bool) → Divides A → (k : ℕ) × Crosses A k
    pub spared : (x : ℕ) → x < length m.spans → Carries x → ⊥
