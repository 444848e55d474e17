-- The proofs of the crate: the test of the table, and what it shows of each sorted request; renaming and sorting; and a plan by the table.
pub mod Sweep
pub mod Tested
pub mod Found
pub mod Walks
pub mod Grouped
pub mod Permuting
pub mod Renamed
pub mod Renaming
pub mod Ranking
pub mod Sorting
pub mod Named
pub mod Placed
pub mod ByTable
