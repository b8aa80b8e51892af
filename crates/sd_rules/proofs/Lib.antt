pub mod ChoiceLemmas
pub mod FunctionLemmas
pub mod PartitionLemmas
