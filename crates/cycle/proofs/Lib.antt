-- The laws that the proofs of this crate, and of those above it, cite.
pub mod Slots
pub mod Pairs
pub mod Groups
pub mod Serving
pub mod Lines
