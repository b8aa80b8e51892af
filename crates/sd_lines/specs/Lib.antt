pub mod Keys
pub mod Operations
pub mod Said
pub mod Statements
pub mod Threads
pub mod Words
