pub mod Kept
pub mod RunningLemmas
pub mod Finished
pub mod PriorityLemmas
pub mod ReadLemmas
