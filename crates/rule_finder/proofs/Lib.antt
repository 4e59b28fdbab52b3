-- Laws of the finder, for the proofs of its functions and for other crates to cite.
pub mod Reading
pub mod Laws
pub mod Filled
pub mod Unread
pub mod Table
pub mod Room
pub mod Calling
