-- The laws that the proofs of this crate, and of those above it, cite.
pub mod States
pub mod SettingUp
pub mod Emptying
pub mod Singly
pub mod Cycles
pub mod Lawful
pub mod Recall
