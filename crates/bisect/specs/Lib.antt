pub mod Trees
pub mod Boxes
pub mod Answers
pub mod Walks
pub mod Gathered
pub mod Examples
