pub mod Entries
pub mod Frames
pub mod Homes
pub mod Plain
pub mod Told
pub mod Worlds
