pub mod Listing
pub mod Sitting
pub mod Offered
pub mod Counted
pub mod Giving
