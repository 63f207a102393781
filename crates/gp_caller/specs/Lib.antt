pub mod Rounds
pub mod Standing
pub mod Sights
pub mod Calling
pub mod Codes
pub mod Adapting
