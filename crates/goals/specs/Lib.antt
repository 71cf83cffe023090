pub mod Settles
pub mod Lies
pub mod Joined
pub mod Holds
pub mod Stronger
