pub mod Blocks
pub mod Canonical
pub mod Lines
pub mod Valid
