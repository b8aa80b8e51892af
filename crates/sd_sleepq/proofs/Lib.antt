pub mod Ordered
pub mod Ends
