pub mod Waiters
pub mod Serving
