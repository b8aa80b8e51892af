pub mod EnteringLemmas
pub mod Needed
pub mod ReplayLemmas
