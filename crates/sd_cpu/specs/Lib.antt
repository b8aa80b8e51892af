pub mod Attempts
pub mod Gates
pub mod Has
pub mod Phases
pub mod Seeking
pub mod Turns
