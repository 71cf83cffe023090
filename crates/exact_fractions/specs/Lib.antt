pub mod Divisors
pub mod Narrow
pub mod Reduced
pub mod Wide
pub mod Exact
pub mod Examples
pub mod Twos
pub mod Beside
