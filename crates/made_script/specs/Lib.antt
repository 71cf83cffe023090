pub mod Proving
pub mod Script
pub mod Examples
