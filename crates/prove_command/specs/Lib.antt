pub mod Command
pub mod Certified
