pub mod Bits
pub mod LevelLemmas
pub mod QueueLemmas
pub mod RankLemmas
pub mod LawLemmas
