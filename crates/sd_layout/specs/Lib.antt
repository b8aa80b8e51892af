pub mod Frames
pub mod Folds
pub mod Layouts
pub mod Marks
pub mod Rows
