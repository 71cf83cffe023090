pub mod Sums
pub mod Floor
pub mod Nearest
pub mod Beside
pub mod Rounded
pub mod Errors
pub mod Chosen
pub mod Spans
