-- The definitions of the crate: the shape of a group, its code, the limit, the symbols of a bank, banks set in a store, a group's banks
-- filled, a symbol updated in them, and the laws.
pub mod Shape
pub mod Code
pub mod Limit
pub mod Symbols
pub mod Banks
pub mod Filling
pub mod Updating
pub mod Laws
