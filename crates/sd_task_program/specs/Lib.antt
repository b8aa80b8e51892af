pub mod Forms
pub mod Printed
pub mod Promises
pub mod Starts
