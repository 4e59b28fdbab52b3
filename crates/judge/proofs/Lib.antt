-- Laws of the judge, for every crate to cite.
pub mod Finite
pub mod Reasons
pub mod Exact
pub mod Taking
mod Passing
