pub mod Masks
pub mod Counting
pub mod Owners
pub mod Orders
pub mod SetMasks
