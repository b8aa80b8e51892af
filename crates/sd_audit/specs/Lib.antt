pub mod Audits
pub mod Collecting
pub mod Differences
pub mod Reading
