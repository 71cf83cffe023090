pub mod Shifts
pub mod Ratios
pub mod Signs
