pub mod Words
pub mod Slices
pub mod Holds
pub mod Flows
pub mod Marks
pub mod Tracks
pub mod Plain
pub mod Apart
