-- Laws that the functions' proofs cite.
pub mod Numbers
pub mod Stores
pub mod Stages
pub mod Turns
pub mod Places
pub mod Round
pub mod Exact
pub mod Table
