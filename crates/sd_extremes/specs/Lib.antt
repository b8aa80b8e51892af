pub mod Ends
pub mod Marks
pub mod Misses
pub mod WholeRuns
