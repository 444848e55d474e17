-- The laws that the proofs of the crates above cite.
pub mod Verdicts
pub mod Numbers
