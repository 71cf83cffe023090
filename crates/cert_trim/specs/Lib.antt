pub mod Trimmed
pub mod Used
pub mod Behind
pub mod Flags
pub mod Law
