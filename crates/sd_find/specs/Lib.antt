pub mod Asked
pub mod Progress
pub mod Audited
pub mod Promises
pub mod Shown
pub mod Starts
pub mod Seeking
