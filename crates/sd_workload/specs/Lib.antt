pub mod Accepted
pub mod First
pub mod LineStarts
pub mod Scripts
pub mod Sound
pub mod Tables
pub mod Texts
