pub mod Ends
pub mod Looks
pub mod Steps
pub mod Texts
