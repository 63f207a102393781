pub mod Parts
pub mod Verdicts
pub mod Answers
pub mod Certified
pub mod Printed
pub mod Rejections
