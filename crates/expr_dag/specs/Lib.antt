pub mod Hashed
pub mod Nodes
pub mod Shapes
pub mod Extended
