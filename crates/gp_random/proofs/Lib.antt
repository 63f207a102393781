pub mod DrawLemmas
pub mod CommandLemmas
pub mod PlanLemmas
pub mod NextLemmas
