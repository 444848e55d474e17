-- The definitions of the crate: what the planner answers.
pub mod Systematic
pub mod Planned
pub mod Laws
pub mod Cases
