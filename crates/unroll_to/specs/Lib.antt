pub mod Frames
pub mod Call
pub mod Meaning
pub mod Steps
