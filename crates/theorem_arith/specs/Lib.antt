pub mod Shapes
pub mod Bounds
pub mod Sizes
pub mod EachRule
