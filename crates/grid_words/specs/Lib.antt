pub mod Digits
pub mod Nearest
pub mod Outward
pub mod Sums
pub mod Signs
pub mod Sizes
pub mod Corners
pub mod Products
