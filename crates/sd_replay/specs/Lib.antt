pub mod Entering
pub mod Replays
