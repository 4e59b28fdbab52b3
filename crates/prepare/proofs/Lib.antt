-- The laws of the sort, for the proofs of the functions and for other crates to cite.
pub mod Joining
pub mod Answering
pub mod OneOrder
pub mod Places
pub mod Soundness
pub mod Acceptance
pub mod Cutting
pub mod Columns
