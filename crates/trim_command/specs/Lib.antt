pub mod Lines
pub mod Trimmed
pub mod Writing
pub mod Command
pub mod Laws
