pub mod Kinds
pub mod Sheets
pub mod TableRows
pub mod TableSpelling
pub mod TableText
