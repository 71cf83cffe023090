pub mod Views
pub mod Rule
pub mod Seen
pub mod Moments
pub mod Stealing
pub mod Close
