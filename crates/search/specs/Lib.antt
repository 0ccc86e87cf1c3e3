-- What a reader must believe of crate search: what is found (Search), when each answer is given (Meaning), and what the operation answers (Answers).
-- Inside has what the private functions tell each other: nothing to believe.
pub mod Search
pub mod Meaning
pub mod Answers
pub mod Inside
