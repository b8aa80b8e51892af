pub mod SeatLemmas
pub mod WorldLemmas
