pub mod Lines
pub mod Proved
pub mod Unproved
pub mod Certificates
pub mod Examples
