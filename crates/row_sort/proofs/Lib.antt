-- The laws of the sort, for the proofs of the functions and for other crates to cite.
pub mod Sorting
pub mod Filling
pub mod Ends
pub mod Parts
pub mod Values
pub mod Merging
pub mod Inserting
pub mod Rows
pub mod Halving
pub mod Running
pub mod ByParts
