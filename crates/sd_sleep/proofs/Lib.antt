pub mod Woken
pub mod Leaving
