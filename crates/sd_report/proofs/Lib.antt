pub mod CellLemmas
pub mod ClosingLemmas
pub mod FieldLemmas
pub mod PlainLemmas
pub mod SetClosingLemmas
pub mod SetPlainLemmas
