-- The certificate, proved: the parts of the earlier crates joined.
pub mod Column
pub mod Progress
pub mod Judging
pub mod Sentences
