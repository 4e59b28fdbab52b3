pub mod Reasons
pub mod Judge
pub mod Laws
pub mod Mistakes
pub mod Passing
