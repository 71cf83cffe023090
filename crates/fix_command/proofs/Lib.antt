pub mod Cut
pub mod Fated
pub mod Ended
pub mod Sure
