pub mod Prepared
pub mod Steps
pub mod Laws
pub mod Lists
pub mod ListSteps
