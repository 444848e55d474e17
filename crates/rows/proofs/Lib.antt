-- The laws that the proofs of this crate, and of those above it, cite.
pub mod Writing
pub mod Groups
pub mod Updating
pub mod Chunks
