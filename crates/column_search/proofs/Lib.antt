-- Laws of the search of one column, for other crates to cite.
pub mod Steps
pub mod Kept
pub mod Count
pub mod Error
pub mod Marks
pub mod Optimal
pub mod Same
pub mod Computes
mod Example
mod Drawn
