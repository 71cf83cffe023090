pub mod Marked
pub mod Listed
pub mod Lasting
