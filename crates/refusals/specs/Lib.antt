-- The definitions of the crate: verdicts, how they are printed, and laws.
pub mod Verdict
pub mod Text
pub mod Laws
