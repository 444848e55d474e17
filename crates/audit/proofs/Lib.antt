-- The laws that the proofs of this crate, and of those above it, cite.
pub mod Places
pub mod Reading
pub mod Served
pub mod Requests
pub mod Marks
pub mod Pairs
pub mod Walk
pub mod Answer
pub mod Storing
