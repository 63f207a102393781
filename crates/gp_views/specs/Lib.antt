pub mod Lists
pub mod Ends
pub mod Books
pub mod Images
pub mod Sights
