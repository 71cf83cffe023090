pub mod Claims
pub mod Meets
pub mod Facts
pub mod Ranges
pub mod Parts
pub mod Reads
pub mod Examples
