pub mod Leaf
pub mod Commonest
pub mod LeafLabel
pub mod Peaks
pub mod Steps
