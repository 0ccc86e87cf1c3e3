-- The search finds the ring of the first lightpath that has one to merge.
use Rattle.std.proofs.Common.{rules}
use Rattle.judgement.specs.Nets.{net_in}
use Rattle.judgement.specs.Merge.{trail_of, merges_by}
use Rattle.judgement.proofs.Finds.{found_mapped}
use Rattle.judgement.proofs.ring.first_ring.Goals as goal

pub returns : goal.returns
returns c =
    found_mapped (merges_by (net_in c.args.net.now) c.args.words.now.low.now c.args.words.now.high.now)
    (λ k. (trail_of (net_in c.args.net.now) c.args.words.now.low.now c.args.words.now.high.now k).touched) _ _ (λ x r q e. search rules) _ c.find_map.ensures.runs
