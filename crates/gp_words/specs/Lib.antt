pub mod Bytes
pub mod Lines
pub mod Tokens
pub mod Numbers
pub mod Spacing
pub mod Beginnings
