pub mod Search
pub mod Laws
pub mod Loop
