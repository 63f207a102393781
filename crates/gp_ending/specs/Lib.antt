pub mod Begins
pub mod Adapting
pub mod Quiet
pub mod Ended
pub mod Ends
pub mod Working
