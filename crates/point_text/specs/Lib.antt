pub mod Points
pub mod PointFaults
pub mod Taken
pub mod Gathered
pub mod Once
