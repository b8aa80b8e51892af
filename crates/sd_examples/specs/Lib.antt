pub mod Answers
pub mod Calls
pub mod Outcomes
pub mod Traces
pub mod Verdicts
