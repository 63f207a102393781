pub mod Draws
pub mod Commands
pub mod Plans
pub mod Fitting
pub mod Sound
