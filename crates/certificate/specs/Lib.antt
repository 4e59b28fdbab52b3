pub mod Certificate
pub mod Promise
