pub mod HeadLemmas
pub mod Loops
pub mod ReadLemmas
