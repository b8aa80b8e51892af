pub mod ExactLemmas
pub mod ListLemmas
pub mod PartLemmas
