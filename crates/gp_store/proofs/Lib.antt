pub mod SpellingLemmas
pub mod ReadingLemmas
pub mod DraftLemmas
pub mod StoreLemmas
pub mod FootprintLemmas
