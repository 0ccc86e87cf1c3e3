-- What a reader must believe of crate face: the nine numbers of each answer, and where they are stored.
pub mod Numbers
