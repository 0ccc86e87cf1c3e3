-- The search finds the first span whose loss parts the stations. The side of the code is the side in the arrays, by the contract of `side_without`.
use Rattle.std.proofs.Common.{rules, ◌+◌, ℕ, not}
use lib.Dec.{eqb}
use Rattle.judgement.specs.Network.{side_of}
use Rattle.judgement.specs.Nets.{net_in}
use Rattle.judgement.specs.Inside.{unset}
use Rattle.judgement.specs.declared.kind.Parted.{Parted}
use Rattle.judgement.proofs.Finds.{found_mapped}
use Rattle.judgement.proofs.kind.first_cut.Goals as goal

pub returns : goal.returns
returns c =
    let side : ℕ → ℕ = λ i. side_of (net_in c.net-net.result) (unset c.args.words.now i) 64 c.lowest-start.result in
    let parted : ℕ → Parted = λ i. record { span = c.args.base + i; side = side i } in
    let found = found_mapped (λ i. not (eqb (side i) c.args.b.now.book.stations)) parted _ c.args.count (λ x r q e. search rules) _ c.find_map.ensures.runs in
    let e = c.net-net.ensures in
    rw (e.0, e.1, e.2, c.lowest-start.ensures.0) at found
