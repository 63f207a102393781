pub mod Uses
pub mod Rules
pub mod Commuting
