pub mod Dropped
pub mod Duties
