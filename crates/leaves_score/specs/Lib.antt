pub mod Scan
pub mod Root
pub mod Recorded
pub mod Lists
pub mod Column
pub mod Kept
pub mod SideLists
