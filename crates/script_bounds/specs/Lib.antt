pub mod Texts
pub mod Tests
pub mod Bounds
pub mod Needs
pub mod Sides
pub mod Examples
