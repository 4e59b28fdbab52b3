-- Laws of the ring.
pub mod Cases
pub mod Waiting
