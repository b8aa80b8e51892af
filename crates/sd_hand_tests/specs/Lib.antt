pub mod Hostile
pub mod Plan
pub mod Ready
