pub mod Languages
pub mod Profiles
pub mod Answers
pub mod Stores
pub mod StoreLaws
pub mod Banks
pub mod BankLaws
