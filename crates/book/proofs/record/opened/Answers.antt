-- The mark and the fixed fields are tested in the reader's order, so each answer is one of the cases of proofs/Steps.antt.
use Rattle.book.proofs.Steps.{opened_short, opened_unlike, opened_torn, opened_whole}
use Rattle.book.proofs.record.opened.Goals as goal

pub returns-then-d-lt2-clause-told : goal.returns-then-d-lt2-clause-told
returns-then-d-lt2-clause-told c = rw c.at.ensures (opened_short c.args.mark.now c.args.k _ _ c.args.here.within c.if-d-lt2.true)

pub returns-then-not-starts_with-clause-told : goal.returns-then-not-starts_with-clause-told
returns-then-not-starts_with-clause-told c =
    rw c.at-then-not-starts_with.ensures (opened_unlike c.args.mark.now c.args.k _ _ c.args.here.within c.told-mark c.if-d-lt2.false c.if-not-starts_with.ensures.value)

pub returns-then-d-k-clause-told : goal.returns-then-d-k-clause-told
returns-then-d-k-clause-told c =
    rw c.at-then-d-k.ensures (opened_torn c.args.mark.now c.args.k _ _ c.args.here.within c.told-mark c.if-d-lt2.false c.if-not-starts_with.ensures.value c.if-d-k.true)

pub returns-clause-told : goal.returns-clause-told
returns-clause-told c = opened_whole c.args.mark.now c.args.k _ _ c.args.here.within c.told-mark c.if-d-lt2.false c.if-not-starts_with.ensures.value c.if-d-k.false
