mod Values
mod Places
pub mod Nodes
pub mod Same
pub mod Faults
pub mod Shapes
pub mod Lifted
pub mod Operands
