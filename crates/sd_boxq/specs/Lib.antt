pub mod Boxes
pub mod Lends
pub mod LendsAt
pub mod LendsValue
pub mod Links
pub mod Order
pub mod Owned
pub mod Search
