pub mod Fraction
pub mod Powers
pub mod Grid
pub mod Cut
pub mod Enclosure
pub mod Expression
