-- The proofs of the crate: lines that are frames, and printed lines.
pub mod Framed
pub mod Printing
