-- Laws of the call's numbers.
pub mod Writing
pub mod Words
