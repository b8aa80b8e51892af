pub mod NapOrder
pub mod OthersLemmas
pub mod PassLemmas
pub mod Past
