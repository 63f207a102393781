pub mod Counts
pub mod Ranges
pub mod Rounds
pub mod Configs
pub mod Sets
pub mod Quorums
