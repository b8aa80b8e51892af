pub mod PriorityLemmas
pub mod SameLemmas
pub mod ScriptLemmas
pub mod WilledLemmas
