-- The definitions of the crate: the reads of a list, when a list is refused, and laws.
pub mod Reads
pub mod Refusals
pub mod Laws
pub mod Parts
