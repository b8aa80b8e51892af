pub mod MarkLemmas
pub mod MissLemmas
pub mod WholeLemmas
