pub mod Stood
pub mod Seeing
pub mod Deciding
pub mod Following
pub mod Adapted
pub mod Looked
