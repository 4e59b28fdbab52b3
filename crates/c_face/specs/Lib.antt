pub mod Numbers
pub mod Told
pub mod Rule
pub mod Face
