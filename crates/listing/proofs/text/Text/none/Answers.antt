-- All noughts are the text of no bytes.
use Rattle.listing.proofs.Texts.{text_none}
use Rattle.listing.proofs.text.Text.none.Goals as goal

pub returns : goal.returns
returns c = text_none
