pub mod Promise
pub mod Outputs
