-- Laws of a column's turns, for other crates to cite.
pub mod Queueing
pub mod Places
pub mod Steps
pub mod Turns
pub mod Loop
pub mod Lent
pub mod Try
pub mod Accepted
