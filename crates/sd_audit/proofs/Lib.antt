pub mod CollectLemmas
mod CommonLemmas
mod DifferenceLemmas
mod EnterLemmas
pub mod ExactLemmas
pub mod LineLemmas
pub mod ReadLemmas
