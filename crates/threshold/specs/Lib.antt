pub mod Threshold
pub mod Laws
pub mod Order
pub mod Column
