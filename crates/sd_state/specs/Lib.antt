pub mod Accounts
pub mod Best
pub mod Invariants
pub mod Opening
pub mod Operations
pub mod States
pub mod Texts
