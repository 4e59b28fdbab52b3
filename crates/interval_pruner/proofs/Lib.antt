-- Laws of the pruning steps, for the crates above to cite.
pub mod Picked
pub mod Shrinking
pub mod Neighbours
pub mod Results
