pub mod Lookups
pub mod Feasible
