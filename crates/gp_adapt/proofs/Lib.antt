pub mod Answering
pub mod Leading
pub mod SingleRounds
pub mod Returning
