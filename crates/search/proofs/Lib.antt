-- The laws of crate search; docs/PROMISES.md lists the theorems among them.
pub mod Findings
pub mod Trying
pub mod Told
pub mod Changes
pub mod Demand
pub mod Together
pub mod Cards
