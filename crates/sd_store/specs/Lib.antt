pub mod Bodies
pub mod Flat
pub mod Keyless
pub mod Parts
pub mod Walks
pub mod Words
