pub mod Bound
pub mod Closed
pub mod OperationKept
pub mod Walked
pub mod WorkLemmas
