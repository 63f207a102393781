pub mod Doing
pub mod Moves
pub mod Causes
pub mod Batches
pub mod Jobs
