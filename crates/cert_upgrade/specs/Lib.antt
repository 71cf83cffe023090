pub mod Stops
pub mod Spelled
pub mod Items
pub mod Files
pub mod Answers
