pub mod First
pub mod Once
pub mod Texts
pub mod FrontLines
pub mod Fronts
