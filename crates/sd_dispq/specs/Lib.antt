pub mod Bitmap
pub mod Levels
pub mod Ranks
pub mod Laws
