pub mod Alone
pub mod Told
pub mod First
pub mod Opt
pub mod Root
pub mod Every
pub mod Same
