pub mod LineLemmas
pub mod TokenLemmas
pub mod NumberLemmas
pub mod SpacingLemmas
pub mod BeginningLemmas
