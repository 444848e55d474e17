-- The definitions of the crate: the shape of a memory, which of its rows are full, and laws.
pub mod Shape
pub mod Name
pub mod Occupancy
pub mod Laws
pub mod Judged
