pub mod Complete
pub mod Holding
pub mod Laws
pub mod Needed
pub mod Readers
pub mod Scripted
pub mod There
pub mod Ticks
