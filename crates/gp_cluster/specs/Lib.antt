pub mod Cells
pub mod Closing
pub mod Offers
pub mod Policies
pub mod Runs
pub mod Seated
