pub mod Run
pub mod Laws
pub mod Table
pub mod Ready
