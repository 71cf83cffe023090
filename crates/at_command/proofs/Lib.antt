pub mod Once
pub mod Cut
pub mod Ends
pub mod Meeting
