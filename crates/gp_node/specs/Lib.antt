pub mod Phases
pub mod Changes
