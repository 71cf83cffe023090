pub mod Fates
pub mod Ends
