-- The laws of a threshold, proved.
pub mod Rounding
pub mod Midpoint
pub mod Law
pub mod Ways
pub mod Zeros
pub mod Compare
pub mod Held
pub mod Alike
pub mod Keys
pub mod Front
