pub mod Merge
pub mod Call
pub mod Meaning
pub mod Steps
