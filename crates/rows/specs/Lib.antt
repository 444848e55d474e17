-- The definitions of the crate: a row's cells in a store, and their laws.
pub mod Rows
pub mod Laws
