pub mod Written
pub mod Turns
