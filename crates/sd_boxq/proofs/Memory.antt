-- What the manual proofs of the functions that touch pointers share.
pub mod Amid
pub mod Chained
pub mod Crosses
pub mod Cursors
pub mod Seams
pub mod Seen
pub mod Shared
pub mod Steps
