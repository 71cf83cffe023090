pub mod Spelling
pub mod Parts
pub mod Normal
