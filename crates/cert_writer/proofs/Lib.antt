mod Seen
mod Sized
mod GoesOn
mod Trimmed
mod Begun
mod Spelled
mod Slots
mod Turn
mod NextCase
mod Start
mod Held
mod Own
mod Node
mod Done
pub mod Files
pub mod Boxes
pub mod CasesLaws
mod Jobs
