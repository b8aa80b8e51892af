pub mod Altered
pub mod Causes
pub mod Moves
pub mod Passing
