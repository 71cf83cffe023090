pub mod Same
pub mod Onward
pub mod Told
pub mod Covered
pub mod Listed
