-- The sides of the code are the sides of the book that its arrays hold: the ends stand in two of them, and each lightpath's words hold a span
-- exactly if its route does.
use Prim.Native.Nat.{ℕ, ◌+◌, ◌-◌, ◌*◌, ◌≤◌, ◌<◌}
use mathlib.Core.Path.{◌≡◌, refl, ap, ◌∙◌}
use mathlib.Core.List.{[]}
use mathlib.Core.Bool.{Bool, true, not}
use native.Mathlib.Omega.{arith}
use lib.ListN.{length, get_or}
use Rattle.book.specs.declared.Book.{Book}
use Rattle.book.specs.Book.{Lightpath, RouteBook, among}
use Rattle.book.specs.Memory.{routes_of, book_of}
use Rattle.book.proofs.Lightpaths.{column_at}
use Rattle.book.proofs.Words.{low_has, high_has}
use Rattle.book.proofs.Writers.{no_lightpath, route_here}
use Rattle.judgement.specs.Network.{side_of}
use Rattle.judgement.specs.Judgement.{network, rides, without, all_up}
use Rattle.judgement.specs.Inside.{net_of, unset}
use Rattle.judgement.proofs.Alike.{side_alike}

module _ (m : RouteBook) where
  -- which lightpaths are up decides the side of s
  pub alike : (up up' : ℕ → Bool) → ((k : ℕ) → k < length m.lightpaths → up k ≡ up' k) → (s : ℕ)
      → side_of (net_of (book_of m).lightpaths (book_of m).from (book_of m).to) up 64 s ≡ side_of (network m) up' 64 s
  alike up up' same = side_alike (net_of (book_of m).lightpaths (book_of m).from (book_of m).to) (network m) up up' (record {
    count = refl;
    from = λ k l. column_at 96 (λ (p : Lightpath). p.ends.from) m.lightpaths no_lightpath refl k;
    to = λ k l. column_at 96 (λ (p : Lightpath). p.ends.to) m.lightpaths no_lightpath refl k;
    state = same;
  }) 64

  -- the route of a lightpath among all routes
  pub route_rides : (x y k : ℕ) → k < length m.lightpaths → y ≡ x → among y (get_or (routes_of m.lightpaths m.alternatives) k []) ≡ rides m x k
  route_rides x y k l e = rw (route_here m k l, e)

  -- a lightpath is up without a span exactly if its word lacks that span
  lacks : (x y k : ℕ) {t : Bool} → k < length m.lightpaths → y ≡ x → t ≡ among y (get_or (routes_of m.lightpaths m.alternatives) k []) → not t ≡ without m x k
  lacks x y k l e h = ap not (h ∙ route_rides x y k l e)

  module _ {b : Book} (e : b ≡ book_of m) (s : ℕ) where
    -- THE LAWS, for the side of any node s; for the lowest station the right sides are `side m (without m x)` and `side m all_up`
    pub side_low : (x : ℕ) → x < 64 → side_of (net_of b.lightpaths b.from b.to) (unset b.low x) 64 s ≡ side_of (network m) (without m x) 64 s
    side_low x l = rw e (alike (unset (book_of m).low x) (without m x) (λ k w. lacks x (64 * 0 + x) k w (omega arith) (low_has m k x l)) s)

    pub side_high : (x : ℕ) → 64 ≤ x → x < 128 → side_of (net_of b.lightpaths b.from b.to) (unset b.high (x - 64)) 64 s ≡ side_of (network m) (without m x) 64 s
    side_high x h l = rw e (alike (unset (book_of m).high (x - 64)) (without m x) (λ k w. lacks x (64 * 1 + (x - 64)) k w (omega arith) (high_has m k (x - 64) (omega arith))) s)

    pub side_up : side_of (net_of b.lightpaths b.from b.to) (λ k. true) 64 s ≡ side_of (network m) all_up 64 s
    side_up = rw e (alike (λ k. true) all_up (λ k w. refl) s)
