pub mod Readings
pub mod Sets
pub mod ToldTasks
