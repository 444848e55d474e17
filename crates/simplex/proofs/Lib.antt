-- The laws that the proofs of this crate, and of those above it, cite.
pub mod Tables
pub mod Contained
pub mod Banks
pub mod Parity
pub mod Pigeon
pub mod Limit
pub mod Requests
pub mod Tight
pub mod Setting
pub mod Filling
pub mod Updating
pub mod Running
