pub mod DelayerLemmas
pub mod DueLemmas
pub mod MeanLemmas
pub mod NumberingLemmas
pub mod TaskTableLemmas
