pub mod Posts
pub mod Members
pub mod Ready
pub mod Results
