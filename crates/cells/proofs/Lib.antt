-- The laws that the proofs of this crate, and of those above it, cite.
pub mod Xors
pub mod Cells
pub mod Turns
pub mod Steps
pub mod Each
