-- What is below `Fraction.Core`.
pub mod Inverse
pub mod Laws
pub mod Order
