-- What a reader must believe of crate judgement: who is joined (Network), loads, sides, verdict and score (Judgement), both forms of survivability
-- (Cuts), when each verdict is given (Meaning), sets of spans that are open (Withdrawn), a node that is closed (Sites), what the operations answer
-- (Answers), and contraction (Pieces, Ways, Contraction). Arrays has what is answered of any struct, which the law `verdict-in` ties to the verdict.
-- Inside, Nets, Holding, Closing and Merge have what the private functions tell each other: nothing to believe.
pub mod Network
pub mod Judgement
pub mod Cuts
pub mod Meaning
pub mod Withdrawn
pub mod Sites
pub mod Answers
pub mod Pieces
pub mod Ways
pub mod Contraction
pub mod Arrays
pub mod Inside
pub mod Nets
pub mod Holding
pub mod Closing
pub mod Merge
