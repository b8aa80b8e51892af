pub mod Floors
pub mod Orders
pub mod Rounds
pub mod Searched
pub mod Sights
pub mod Surveys
