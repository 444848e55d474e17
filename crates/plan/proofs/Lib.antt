-- The proofs of the crate: systematic banks alone, and that the planner's plan is one.
pub mod Systematic
pub mod Storing
pub mod Planning
pub mod Answering
