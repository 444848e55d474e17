-- The proofs of the crate: sizes that fit, sessions and what they keep.
pub mod Fitting
pub mod Rooms
pub mod Done
pub mod Cycles
pub mod Kept
pub mod SetUps
pub mod Refused
pub mod Told
pub mod Sessions
