pub mod Looking
pub mod Cutting
