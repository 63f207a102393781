pub mod Driven
pub mod Simulated
pub mod Learned
