pub mod Sleepers
pub mod Among
pub mod Ends
