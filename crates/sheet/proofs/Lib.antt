-- Laws of the input check, for every crate to cite.
pub mod Search
pub mod Numbered
pub mod Index
pub mod MetBefore
pub mod Values
pub mod Lists
pub mod CutList
pub mod Answer
pub mod Once
pub mod CutsExact
pub mod Exact
pub mod Accepted
pub mod Good
