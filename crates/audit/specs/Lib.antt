-- The definitions of the crate: a plan, its arrays, and the audit of one.
pub mod Plan
pub mod Stored
pub mod Audit
pub mod Laws
