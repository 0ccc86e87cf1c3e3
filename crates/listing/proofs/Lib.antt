-- The laws of crate listing.
pub mod Texts
pub mod Spelling
pub mod Numbers
pub mod Moves
pub mod Reports
pub mod Told
pub mod Listings
pub mod Statuses
