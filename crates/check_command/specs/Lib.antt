pub mod Checked
pub mod Command
pub mod Laws
