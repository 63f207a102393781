pub mod Steps
pub mod NameLemmas
pub mod FormLemmas
pub mod ItemLemmas
pub mod LineLemmas
pub mod CountsLemmas
pub mod BrokenTokens
pub mod OwnReasons
