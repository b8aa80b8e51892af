pub mod ChainLemmas
pub mod LeftLemmas
