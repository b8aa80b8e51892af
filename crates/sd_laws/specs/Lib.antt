pub mod Belonging
pub mod Changes
pub mod HistoryLaws
pub mod InheritanceLaws
