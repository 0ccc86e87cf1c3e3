-- What the structs that hold lightpaths mean: the network of them, and what is known of it while some are up.
use Rattle.judgement.specs.declared.net.Net.{Net}
use Rattle.judgement.specs.declared.pairs.Known.{Known}
use Rattle.judgement.specs.Network.{Network}
use Rattle.judgement.specs.Inside.{net_of, up_of, Led, OneSide}

abbrev pub net_in : Net → Network
net_in w = net_of w.n w.from w.to

-- the rows lead where the lightpaths do that are up, and the side is that of some node then
pub record Told (w : Known) : Type 0 where
  pub led : Led 64 w.rows.now (net_in w.net.now) (up_of w.up.now)
  pub one : OneSide 64 (net_in w.net.now) (up_of w.up.now) w.side.mask
