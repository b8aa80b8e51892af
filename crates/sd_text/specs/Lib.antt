pub mod Adapters
pub mod Faults
pub mod Lines
pub mod Memory
pub mod Numbers
pub mod Reading
pub mod Words
