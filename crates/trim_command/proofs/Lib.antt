pub mod Trimmable
pub mod Once
pub mod Written
pub mod Ends
