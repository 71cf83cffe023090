pub mod Within
pub mod HintReads
pub mod HintGrows
mod Enough
