pub mod Names
pub mod Posters
