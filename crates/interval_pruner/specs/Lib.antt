pub mod Column
pub mod Pruner
pub mod Promise
pub mod Steps
