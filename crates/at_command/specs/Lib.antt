pub mod Lines
pub mod Told
pub mod Command
pub mod Laws
