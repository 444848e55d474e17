-- The definitions of the crate: cells of a store, and XOR of bytes.
pub mod Cell
pub mod Xor
