pub mod Counting
pub mod Joining
pub mod Rejoining
pub mod Meeting
pub mod Masked
pub mod Beside
