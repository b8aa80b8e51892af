pub mod Passed
pub mod Released
