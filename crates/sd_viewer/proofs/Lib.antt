pub mod ClosingLemmas
pub mod ForeseenLemmas
pub mod GlimpseLemmas
pub mod ViewLemmas
