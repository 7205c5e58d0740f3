pub mod Kept
pub mod Keeping
pub mod Copying
pub mod Steps
