pub mod Agree
pub mod Marks
