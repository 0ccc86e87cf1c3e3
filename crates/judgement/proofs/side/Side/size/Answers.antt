-- The machine counts the ones of the mask, and each is a member below the width. The law is `ones_size`.
use borrow.Author.Rules.{rules}
use Rattle.judgement.proofs.Sets.{ones_size}
use Rattle.judgement.proofs.side.Side.size.Goals as goal

pub returns : goal.returns
returns c = ones_size 64 _ (search rules)
