pub mod Clocks
pub mod Starters
pub mod Tails
pub mod Verdicts
pub mod Kept
pub mod Counts
