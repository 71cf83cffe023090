pub mod Outside
pub mod OnlyReads
pub mod Held
pub mod Calls
pub mod Sinks
pub mod Files
pub mod Folders
pub mod Paths
