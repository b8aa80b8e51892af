pub mod Jobs
pub mod Locks
pub mod Tables
