pub mod Holds
pub mod Bands
pub mod Exact
