mod Come
mod Written
mod Treed
mod Rooted
mod Head
mod Fitting
mod FitArith
mod FitFix
mod FitRel
mod FitRewrites
mod FitList
pub mod Cited
pub mod Coming
pub mod Moves
