pub mod Checked
pub mod Complete
pub mod Once
pub mod Ends
