pub mod JobLines
pub mod Means
pub mod Numbering
pub mod TaskTable
