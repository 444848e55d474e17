-- The definitions of the crate: the state of a memory, its operations, the cycle law, what each operation means, histories, and the laws.
pub mod State
pub mod Operations
pub mod CycleLaw
pub mod Meaning
pub mod History
pub mod Laws
