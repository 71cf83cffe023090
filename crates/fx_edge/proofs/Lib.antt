pub mod LastFile
pub mod OutsideLaws
pub mod OnlyReads
