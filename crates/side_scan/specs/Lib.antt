pub mod OneSide
pub mod Step
pub mod Commonest
pub mod Counts
pub mod Scored
