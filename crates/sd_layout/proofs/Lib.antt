pub mod FoldLemmas
pub mod MarkLemmas
pub mod RowLemmas
pub mod ActLemmas
