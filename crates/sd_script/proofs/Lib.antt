pub mod FaultLemmas
