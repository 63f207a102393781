pub mod Rounds
pub mod Drawing
pub mod Puts
