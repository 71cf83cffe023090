pub mod Fates
pub mod Left
pub mod Runs
pub mod Follows
