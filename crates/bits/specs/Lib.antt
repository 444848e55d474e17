-- The definitions of the crate: bits of a number, and sets of numbers as words.
pub mod Bits
pub mod Marks
pub mod Sets
