pub mod Segments
pub mod Zips
