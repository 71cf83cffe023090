pub mod Named
pub mod Settled
pub mod Held
pub mod OneSubject
pub mod CaseFacts
pub mod Kept
