pub mod AppendLemmas
pub mod SaidLemmas
pub mod WatchedLemmas
