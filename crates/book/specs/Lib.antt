-- What a reader must believe of crate book: what a route book is (Book), how it is written and read (Reader, Format), what each refusal means
-- (Refusal), how a book is held in memory (Bits, Memory), what its choices are (Choice, and Moving in memory) and what the writer does (Writing).
-- Inside has what the private functions tell each other: nothing to believe.
pub mod Book
pub mod Reader
pub mod Format
pub mod Refusal
pub mod Bits
pub mod Memory
pub mod Choice
pub mod Writing
pub mod Moving
pub mod Inside
