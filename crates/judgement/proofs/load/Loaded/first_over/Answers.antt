-- The search finds the first span over its limit, as the loads have them; the loads say of each span what the book says of it.
use Rattle.std.proofs.Common.{rules, ◌∙◌}
use Rattle.judgement.specs.Arrays.{limit_in}
use Rattle.judgement.specs.declared.load.Overload.{Overload}
use Prim.Native.Nat.{ℕ}
use lib.ListN.{get_or}
use Rattle.judgement.proofs.Usable.{usable_spans}
use Rattle.judgement.proofs.Excess.{over_by, over_is}
use Rattle.judgement.proofs.Finds.{found_mapped}
use Rattle.judgement.proofs.load.Loaded.first_over.Goals as goal

pub returns : goal.returns
returns c =
    let s = c.args.self.now in
    let b = s.judgeable.now in
    let over : ℕ → Overload = λ x. record { span = x; load = get_or s.loads x 0; limit = limit_in b.book x } in
    let found = found_mapped (over_by b.book s.loads) over _ b.book.spans (λ x r q e. search rules) _ c.find_map.ensures.runs in
    found ∙ over_is b.book _ s.counted (usable_spans b.usable)
