pub mod Spans
pub mod Reading
pub mod Examples
