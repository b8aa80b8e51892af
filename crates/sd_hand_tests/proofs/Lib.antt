pub mod CallLemmas
pub mod FirstLemmas
pub mod HostileLemmas
pub mod PlanLemmas
pub mod ReadyLemmas
pub mod WholeLemmas
