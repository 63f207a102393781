pub mod Held
pub mod Codes
pub mod Gathered
pub mod Kept
pub mod Played
pub mod Tops
pub mod Bounds
