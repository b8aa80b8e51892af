pub mod GivenUp
pub mod Handed
pub mod Looped
pub mod Same
pub mod Taken
pub mod Walked
