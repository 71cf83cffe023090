pub mod Cases
pub mod Parts
pub mod Met
pub mod Gaps
pub mod Marks
pub mod Choice
pub mod Examples
