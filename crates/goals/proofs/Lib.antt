pub mod Gather
pub mod StrongerSettle
