-- The definitions of the crate: sessions.
pub mod Asked
pub mod Session
pub mod Steps
pub mod Parts
pub mod Past
pub mod Laws
