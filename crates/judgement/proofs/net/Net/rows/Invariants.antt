-- After k turns the rows lead along the first k lightpaths. Each turn notes one more: `leads_more`.
use Rattle.judgement.specs.Inside.{net_of, up_of, Leads}
use Rattle.judgement.proofs.net.Net.rows.Given as goal

abbrev pub invariant-loop-k : goal.invariant-loop-k
invariant-loop-k l = Leads 64 (net_of l.k l.self.from l.self.to) (up_of l.up) l.rows
