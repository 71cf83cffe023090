pub mod AbsoluteValues
pub mod Nearest
pub mod Outward
pub mod FractionLaws
