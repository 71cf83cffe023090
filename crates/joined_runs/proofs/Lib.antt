pub mod Again
pub mod Programs
pub mod Points
pub mod Trimmed
pub mod Upgraded
