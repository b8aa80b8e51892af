pub mod EntryWords
pub mod Fitting
pub mod Reading
