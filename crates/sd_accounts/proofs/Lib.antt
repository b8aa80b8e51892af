pub mod CounterLemmas
pub mod LapSteps
pub mod StateGraphs
pub mod TextLemmas
