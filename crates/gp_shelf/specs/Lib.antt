pub mod Places
pub mod Lists
pub mod Making
pub mod Shelves
