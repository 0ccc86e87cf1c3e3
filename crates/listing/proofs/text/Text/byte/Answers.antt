-- While there is room the byte is stored behind the others; where there is none the text stays.
use Rattle.listing.proofs.Texts.{adds_byte, adds_full}
use Rattle.listing.proofs.text.Text.byte.Goals as goal

pub returns-then-self-lt1024 : goal.returns-then-self-lt1024
returns-then-self-lt1024 c = adds_byte c.args.self c.args.c c.if-self-lt1024.true

pub returns-else-self-lt1024 : goal.returns-else-self-lt1024
returns-else-self-lt1024 c = adds_full c.args.self c.args.c c.if-self-lt1024.false
