pub mod CommaLemmas
pub mod IdleLemmas
pub mod IndexLemmas
pub mod PlaceLemmas
