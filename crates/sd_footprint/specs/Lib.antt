pub mod Changed
pub mod Homes
pub mod There
