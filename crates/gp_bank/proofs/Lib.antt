pub mod SpellingLemmas
pub mod ReadingLemmas
pub mod DraftLemmas
pub mod BankLemmas
pub mod SumLemmas
pub mod RunLemmas
pub mod TotalLemmas
