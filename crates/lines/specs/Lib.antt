-- The definitions of the crate: the lines of a text, hexadecimal, their laws, and the reading of a text.
pub mod Lines
pub mod Reader
pub mod Hex
pub mod Laws
pub mod Input
