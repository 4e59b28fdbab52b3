-- Laws of the search, for other crates to cite.
pub mod Table
pub mod Columns
pub mod Answer
pub mod Laws
