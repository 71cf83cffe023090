pub mod Slots
pub mod Instances
pub mod Lists
pub mod Found
pub mod InOrder
pub mod Beside
