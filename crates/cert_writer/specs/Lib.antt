pub mod Heads
pub mod Boxes
pub mod Standing
pub mod Courses
pub mod Cases
pub mod Laws
pub mod Walks
pub mod Written
