pub mod AsWorld
pub mod JobLemmas
pub mod Listed
pub mod Locking
pub mod StintLemmas
