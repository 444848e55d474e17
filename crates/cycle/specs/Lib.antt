-- The definitions of the crate: what a cycle puts out, what it is to be served, and laws.
pub mod Cycle
pub mod Served
pub mod Laws
pub mod Parts
