pub mod Search
pub mod Table
pub mod Columns
pub mod Laws
pub mod Promise
