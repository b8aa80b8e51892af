pub mod Causes
pub mod Declarations
pub mod Kept
pub mod Opened
pub mod Operations
pub mod Statements
