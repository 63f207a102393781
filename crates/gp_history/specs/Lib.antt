pub mod Codes
pub mod History
pub mod Sequence
pub mod Canonical
pub mod Bounds
pub mod Walks
