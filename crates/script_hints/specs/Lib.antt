pub mod Hints
pub mod Drafts
pub mod Reading
pub mod ReadingLaw
pub mod Examples
pub mod Needs
pub mod Meets
pub mod Few
