-- Well-formedness, taken apart: each of its five parts by name, for whoever needs one of them.
-- Putting the five together gives well-formedness back, so nothing is lost.
use mathlib.Core.Path.{◌≡◌}
use mathlib.Core.List.{[], map}
use mathlib.Core.Bool.{true}
use lib.ListN.{length}
use Rattle.book.specs.Book.{RouteBook, some, every, ends_of, counts_fit, span_fits, lightpath_fits, alternative_fits, well_formed}
use Rattle.book.proofs.Tests.{and_inv, and_both}

pub record Parts (m : RouteBook) : Type 0 where
  pub counts : counts_fit (length m.nodes) (length m.spans) (length m.lightpaths) (length m.alternatives) ≡ true
  pub station : some m.nodes ≡ true
  pub spans : every (λ before. span_fits (length m.nodes)) [] m.spans ≡ true
  pub lightpaths : every (λ before. lightpath_fits m.nodes m.spans) [] m.lightpaths ≡ true
  pub alternatives : every (alternative_fits m.spans (map ends_of m.lightpaths)) [] m.alternatives ≡ true

module _ (m : RouteBook) where
  pub parts : well_formed m ≡ true → Parts m
  unfolding well_formed
  parts h =
      let a = and_inv {a = counts_fit (length m.nodes) (length m.spans) (length m.lightpaths) (length m.alternatives)} h in
      let b = and_inv {a = some m.nodes} a.1 in
      let c = and_inv {a = every (λ before. span_fits (length m.nodes)) [] m.spans} b.1 in
      let d = and_inv {a = every (λ before. lightpath_fits m.nodes m.spans) [] m.lightpaths} c.1 in
      record { counts = a.0; station = b.0; spans = c.0; lightpaths = d.0; alternatives = d.1 }

  pub whole : Parts m → well_formed m ≡ true
  unfolding well_formed
  whole p = and_both p.counts (and_both p.station (and_both p.spans (and_both p.lightpaths p.alternatives)))
