pub mod ClockLemmas
pub mod ScriptLemmas
pub mod VerdictLemmas
