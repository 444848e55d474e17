-- The laws that the proofs of this crate, and of those above it, cite.
pub mod Counting
pub mod Once
pub mod Cutting
pub mod Grids
pub mod Accepted
pub mod Refused
pub mod Wrong
