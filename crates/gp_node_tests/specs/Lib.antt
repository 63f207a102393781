pub mod Alone
pub mod Phases
