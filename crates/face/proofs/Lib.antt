-- The law of crate face: the numbers of what the reader answers are those of the reading.
pub mod Rows
