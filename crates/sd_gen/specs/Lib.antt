pub mod Generated
pub mod Plain
