pub mod Reading
pub mod Taking
pub mod OnlyWrites
pub mod Pieces
