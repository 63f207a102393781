pub mod Begun
pub mod Commits
pub mod Runs
pub mod Keeping
