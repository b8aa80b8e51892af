pub mod Ledgers
pub mod Movers
pub mod Places
pub mod Plays
pub mod Rule
pub mod Words
