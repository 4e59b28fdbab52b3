pub mod Parts
pub mod Course
pub mod Lent
pub mod Promise
pub mod Ready
pub mod Try
pub mod Steps
