pub mod Bytes
pub mod Read
pub mod Reading
pub mod Laws
pub mod Encode
pub mod Table
pub mod Room
