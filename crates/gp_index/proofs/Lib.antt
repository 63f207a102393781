pub mod Starts
pub mod Searches
pub mod Parted
pub mod Cut
pub mod Ascending
pub mod Marks
pub mod Continuing
