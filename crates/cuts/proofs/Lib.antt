-- Laws of the lookups, for the crates above to cite.
pub mod Lookups
pub mod Feasible
