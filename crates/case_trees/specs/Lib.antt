pub mod Listed
pub mod Answers
pub mod Gathered
pub mod Laws
