pub mod Parts
pub mod Named
pub mod Built
pub mod OneUniverse
pub mod Cases
pub mod Universes
