pub mod OnlyWrites
pub mod Pieces
pub mod Texts
