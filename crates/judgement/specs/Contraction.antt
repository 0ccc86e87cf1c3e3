-- Contraction, docs/CONTRACTION.md, section 3: single stations, then ring after ring, until a pass merges nothing; and what the second engine answers.
use Rattle.std.specs.Prelude.{ℕ, zero, suc, ◌*◌, List, [], ◌∷◌, Bool, true, false, cond, not, ◌&&◌, ◌||◌, eqb, leb, ltb, length, Result, Ok, Err}
use Rattle.book.specs.Book.{RouteBook, most_nodes}
use Rattle.book.specs.Bits.{has}
use Rattle.book.specs.Format.{Reading, good, refused}
use Rattle.judgement.specs.Network.{Network}
use Rattle.judgement.specs.Judgement.{rides, network, load, limit, first_of}
use Rattle.judgement.specs.Pieces.{over, split_over}
use Rattle.judgement.specs.Ways.{lowest_of, near, way}
use Rattle.judgement.specs.declared.Verdict.{Verdict}
use Rattle.judgement.specs.declared.Verdict.TheVariants.{Over}
use Rattle.judgement.specs.declared.Contracted.{Contracted}
use Rattle.book.specs.Memory.{refusal}
use Rattle.book.specs.declared.refusal.Refusal.{Refusal}

-- how many of the lightpaths of a list are out
unfoldable pub lost : (ℕ → Bool) → List ℕ → ℕ
lost out [] = 0
lost out (k ∷ ks) = cond (out k) (suc (lost out ks)) (lost out ks)

-- q is an end of one of them
unfoldable pub touches : Network → List ℕ → ℕ → Bool
touches net [] q = false
touches net (k ∷ ks) q = (eqb (net.from k) q || eqb (net.to k) q) || touches net ks q

-- every number below n passes a test
unfoldable pub every : (ℕ → Bool) → ℕ → Bool
every t zero = true
every t (suc n) = t n && every t n

module _ (m : RouteBook) where
  module _ (piece : ℕ → ℕ) where
    -- K8: all lightpaths but k
    abbrev pub others : ℕ → ℕ → Bool
    others k j = not (eqb j k)

    -- K8: other lightpaths run between the pieces of k's ends
    abbrev pub round : ℕ → Bool
    round k = has (near (over (network m) piece) (others k) (piece ((network m).to k)) most_nodes) (piece ((network m).from k))

    -- K11: the ring of k: k itself, and the first way by others from the piece of its "from" to that of its "to"
    abbrev pub ring_of : ℕ → List ℕ
    ring_of k = k ∷ way (over (network m) piece) (others k) (piece ((network m).to k)) most_nodes (piece ((network m).from k))

    -- K12: no span carries two of them
    abbrev pub sparing : List ℕ → Bool
    sparing ks = every (λ x. leb (lost (rides m x) ks) 1) (length m.spans)

    -- K12: lightpath k joins two different pieces, and its ring may be merged
    unfoldable pub merges : ℕ → Bool
    merges k = not (eqb (piece ((network m).from k)) (piece ((network m).to k))) && (round k && sparing (ring_of k))

    -- K12: the lowest lightpath whose ring may be merged; their number if there is none
    unfoldable pub taken : ℕ
    taken = lowest_of merges (length m.lightpaths)

    -- K13: the lowest label of a ring, and the pieces with those of the ring made one
    unfoldable pub lowest_label : List ℕ → ℕ
    lowest_label ks = lowest_of (touches (over (network m) piece) ks) most_nodes

    unfoldable pub merged : List ℕ → ℕ → ℕ
    merged ks i = cond (touches (over (network m) piece) ks (piece i)) (lowest_label ks) (piece i)

  -- K7, K14: merges until a pass merges nothing, f at most: the pieces, and how many merges that were
  unfoldable pub contract : ℕ → (ℕ → ℕ) → ℕ → ℕ
  contract zero piece = piece
  contract (suc f) piece = let r = contract f (merged piece (ring_of piece (taken piece))) in cond (ltb (taken piece) (length m.lightpaths)) r piece

  unfoldable pub merges_in : ℕ → (ℕ → ℕ) → ℕ
  merges_in zero piece = 0
  merges_in (suc f) piece = let r = merges_in f (merged piece (ring_of piece (taken piece))) in cond (ltb (taken piece) (length m.lightpaths)) (suc r) 0

  -- K14: each merge makes the sum of the labels less, so that most_nodes * most_nodes are enough
  abbrev pub pieces : ℕ → ℕ
  pieces = contract (most_nodes * most_nodes) (λ i. i)

  -- K15: OVER as the judgement has it, with no merge; else what is left is judged over the pieces
  abbrev pub verdict_over : Verdict
  verdict_over = let r = split_over m pieces in first_of (λ x. ltb (limit m x) (load m x)) (λ x. Over x (load m x) (limit m x)) r (length m.spans) 0

  abbrev pub merge_count : ℕ
  merge_count = let r = merges_in (most_nodes * most_nodes) (λ i. i) in first_of (λ x. ltb (limit m x) (load m x)) (λ x. 0) r (length m.spans) 0

-- K16: the answer of the second engine
abbrev pub contracted : Verdict → ℕ → Contracted
contracted v n = record { verdict = v; merges = n }

abbrev pub contraction_of : RouteBook → Contracted
contraction_of m = contracted (verdict_over m) (merge_count m)

abbrev pub contracted_of : Reading → Result Contracted Refusal
contracted_of (good m) = Ok (contraction_of m)
contracted_of (refused k p) = Err (refusal k p)
