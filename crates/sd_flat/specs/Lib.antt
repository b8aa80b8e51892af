pub mod Passes
pub mod Standings
