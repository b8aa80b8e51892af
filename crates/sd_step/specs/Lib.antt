pub mod Needed
pub mod Tasks
pub mod Touched
