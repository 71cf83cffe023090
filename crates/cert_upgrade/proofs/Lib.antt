mod Begun
mod Leads
mod Spelled
mod Read
mod Turn
mod Measured
mod Held
mod Rewritten
mod Stopped
mod Upgraded
pub mod Items
