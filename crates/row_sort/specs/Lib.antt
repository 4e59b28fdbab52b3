pub mod Sorting
pub mod Steps
pub mod Parts
