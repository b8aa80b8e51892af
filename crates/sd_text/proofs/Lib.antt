pub mod LineLemmas
pub mod MemoryLemmas
pub mod NumberLemmas
pub mod PieceLemmas
pub mod StreamLemmas
pub mod WordLemmas
