pub mod Literals
pub mod Signs
pub mod Lex
pub mod Words
pub mod Named
pub mod Placed
pub mod Kept
pub mod Quiet
