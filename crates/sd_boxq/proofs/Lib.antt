pub mod InOrder
pub mod Memory
pub mod Gaps
pub mod Counts
