pub mod Statuses
pub mod Runs
pub mod Fates
pub mod Ends
