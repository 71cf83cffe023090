pub mod Subjects
pub mod Checking
