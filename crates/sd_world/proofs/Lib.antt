pub mod ActorLemmas
pub mod BareLemmas
pub mod ComeLemmas
mod EndedLemmas
pub mod GivenLemmas
pub mod HintLemmas
mod ListLemmas
mod NapLemmas
pub mod NumberLemmas
pub mod OtherHomes
mod PartLemmas
pub mod PlainLemmas
mod ThreadLemmas
pub mod WorldLemmas
