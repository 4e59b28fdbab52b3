-- Laws of the definitions of specs/, for every crate to cite.
pub mod Choice
pub mod Lists
pub mod Walk
