-- The definitions of the crate: frames, answers as lines, and laws.
pub mod Frame
pub mod Printing
pub mod Bounds
pub mod Laws
