pub mod Appends
pub mod RowLemmas
