pub mod Owning
pub mod Noting
pub mod Sources
pub mod Certificates
pub mod Replays
