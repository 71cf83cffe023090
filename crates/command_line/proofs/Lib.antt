pub mod Apart
pub mod Asking
pub mod Long
pub mod Powers
