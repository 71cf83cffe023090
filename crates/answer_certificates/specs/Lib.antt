pub mod Scripts
pub mod Boxes
pub mod Roots
pub mod Laws
pub mod Premises
pub mod Universes
