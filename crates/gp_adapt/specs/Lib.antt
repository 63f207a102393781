pub mod Courses
pub mod Codes
pub mod Choices
pub mod Calls
pub mod Told
