pub mod Results
pub mod Passes
