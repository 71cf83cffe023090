pub mod Points
pub mod Judged
pub mod Told
