pub mod Forms
pub mod Lefts
pub mod Texts
pub mod Timings
pub mod Watched
pub mod Answered
