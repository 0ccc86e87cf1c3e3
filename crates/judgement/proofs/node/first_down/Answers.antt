-- The search finds the first node whose closing parts the others, which stand where the side is the set of the stations left.
use Rattle.std.proofs.Common.{rules, ℕ, not}
use lib.Dec.{eqb}
use Rattle.judgement.specs.Closing.{left_in, side_left_in}
use Rattle.judgement.specs.declared.Down.{Down}
use Rattle.judgement.proofs.Finds.{found_mapped}
use Rattle.judgement.proofs.node.first_down.Goals as goal

pub returns : goal.returns
returns c =
    let all = c.stations-all.result.mask in
    let w = c.net-net.result in
    let side : ℕ → ℕ = λ v. side_left_in all w.n w.from w.to c.args.words.now v in
    let down : ℕ → Down = λ v. record { node = v; side = side v } in
    let found = found_mapped (λ v. not (eqb (side v) (left_in all v))) down _ c.args.b.now.book.nodes (λ x r q e. search rules) _ c.find_map.ensures.runs in
    let e = c.net-net.ensures in
    rw (e.0, e.1, e.2, c.stations-all.ensures) at found
