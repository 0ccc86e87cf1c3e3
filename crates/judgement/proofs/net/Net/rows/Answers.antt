-- After k turns the rows lead along the first k lightpaths. Each turn notes one more: `leads_more`.
use Rattle.judgement.specs.Inside.{up_of}
use Rattle.judgement.proofs.Rows.{leads_none, leads_more}
use Rattle.judgement.proofs.net.Net.rows.Goals as goal

pub loop-k-init : goal.loop-k-init
loop-k-init c = leads_none 64 c.args.self.now.from c.args.self.now.to _

pub loop-k-preserved : goal.loop-k-preserved
loop-k-preserved c =
    let l = c.loop-k in
    let w = c.args.self.now in
    rw (c.note.ensures, c.ends.ensures.0, c.ends.ensures.1) (leads_more 64 w.from w.to (up_of c.args.up.now) l.k l.invariant (w.fits.from_low _) (w.fits.to_low _))
