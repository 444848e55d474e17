-- The definitions of the crate: what is written.
pub mod Written
